-- What is told can be printed, is one, and changes files of the tree alone.
use Rattle.std.proofs.Common.{◌≡◌, ℕ, zero, suc, ◌<◌, inl, inr, List, [], ◌∷◌, ◌++◌, length, get_or, All, refl, sym, ap, ◌∙◌, subst, arith}
use Rattle.std.specs.List.{Contains}
use Rattle.std.proofs.lemmas.List.Elements.{Contains-append_cases}
use Rattle.gv_base.specs.Files.{Entry}
use Rattle.fix_apply.specs.declared.edits.Edit.{Edit}
use Rattle.fix_apply.specs.declared.choices.Choice.{Choice}
use Rattle.analysis_core.specs.declared.command.Command.{Command}
use Rattle.analysis_core.specs.declared.command.Command.TheVariants.{Check, Report, Facts, Fix}
use Rattle.analysis_core.specs.declared.reply.ChangedFile.{ChangedFile}
use Rattle.analysis_core.specs.declared.reply.Counts.{Counts}
use Rattle.analysis_core.specs.declared.reply.ErrorLine.{ErrorLine}
use Rattle.analysis_core.specs.declared.reply.FactLine.{FactLine}
use Rattle.analysis_core.specs.declared.reply.FoundLine.{FoundLine}
use Rattle.analysis_core.specs.declared.reply.Reply.{Reply}
use Rattle.analysis_core.specs.Replies.{check_reply}
use Rattle.report_text.specs.Standing.{StandsIn}
use Rattle.report_text.specs.ReplyStanding.{FixesStand, FoundStands, ReplyStands}
use Rattle.tree_findings.specs.Lines.{IsSettled}
use Rattle.tree_findings.specs.Mending.{changed_by, changes, changes_from, fixes_of, IsMended}
use Rattle.tree_findings.specs.Telling.{facts_reply, reply_with, AreFilesOf, IsPathOf, IsTold, TellsNothing}
use Rattle.tree_findings.proofs.ChosenLemmas.{choices-exist}
use Rattle.tree_findings.proofs.LineLemmas.{one_settled, settled-all}
use Rattle.tree_findings.proofs.MendLemmas.{fixes-stand, one_mending}
use Rattle.tree_findings.proofs.OrderedLemmas.{ordered}

no-item : {X : Type 0} (x : X) → Contains [] x → ⊥
no-item x h = let l = h.1 in omega (arith, l)

-- ---- printing

no-check : Check ≡ Fix → ⊥
no-check e = cc

no-report : Report ≡ Fix → ⊥
no-report e = cc

no-facts : Facts ≡ Fix → ⊥
no-facts e = cc

no-lines : (tree : List Entry) (found : List FoundLine) → found ≡ [] → All (FoundStands tree) found
no-lines tree found e = subst (All (FoundStands tree)) (sym e) (λ k d lt. absurd (omega (arith, lt)))

settled-stand : (tree : List Entry) (lines found : List FoundLine) → IsSettled lines found → All (FoundStands tree) lines → All (FoundStands tree) found
settled-stand tree lines found h all = settled-all (FoundStands tree) lines found h all

pub told-stands : (asked : Command) (tree : List Entry) (lines : List FoundLine) (facts : List FactLine) (r : Reply) → IsTold asked tree lines facts r → All (StandsIn tree) r.errors → All (FoundStands tree) lines → ReplyStands tree asked r
told-stands Check tree lines facts r told errors all = record { errors = errors; found = no-lines tree r.diagnostics (ap (λ (x : Reply). x.diagnostics) told); fixes = λ e. absurd (no-check e) }
told-stands Report tree lines facts r told errors all = record { errors = errors; found = settled-stand tree lines r.diagnostics told.found all; fixes = λ e. absurd (no-report e) }
told-stands Facts tree lines facts r told errors all = record { errors = errors; found = no-lines tree r.diagnostics (ap (λ (x : Reply). x.diagnostics) told.plain); fixes = λ e. absurd (no-facts e) }
told-stands Fix tree lines facts r told errors all = record { errors = errors; found = settled-stand tree lines r.diagnostics told.found all; fixes = λ e. fixes-stand r told.mended.chosen }

pub told-found : (asked : Command) (tree : List Entry) (lines : List FoundLine) (facts : List FactLine) (r : Reply) → IsTold asked tree lines facts r → All (FoundStands tree) lines → All (FoundStands tree) r.diagnostics
told-found Check tree lines facts r told all = no-lines tree r.diagnostics (ap (λ (x : Reply). x.diagnostics) told)
told-found Report tree lines facts r told all = settled-stand tree lines r.diagnostics told.found all
told-found Facts tree lines facts r told all = no-lines tree r.diagnostics (ap (λ (x : Reply). x.diagnostics) told.plain)
told-found Fix tree lines facts r told all = settled-stand tree lines r.diagnostics told.found all

-- ---- one reply

same-parts : (a b : Reply) (ds es : List FoundLine) (cs fs : List Choice) (xs ys : List ChangedFile) → ds ≡ es → cs ≡ fs → xs ≡ ys → a.packages ≡ b.packages → a.errors ≡ b.errors → a.counts ≡ b.counts
    → reply_with a.packages a.errors ds cs xs a.counts ≡ reply_with b.packages b.errors es fs ys b.counts
same-parts a b ds es cs fs xs ys d c x p e n =
    ap (λ z. reply_with z a.errors ds cs xs a.counts) p
    ∙ (ap (λ z. reply_with b.packages z ds cs xs a.counts) e
    ∙ (ap (λ z. reply_with b.packages b.errors z cs xs a.counts) d
    ∙ (ap (λ z. reply_with b.packages b.errors es z xs a.counts) c
    ∙ (ap (λ z. reply_with b.packages b.errors es fs z a.counts) x
    ∙ ap (λ z. reply_with b.packages b.errors es fs ys z) n))))

same-facts : (a b : Reply) (facts : List FactLine) → a.packages ≡ b.packages → a.errors ≡ b.errors → a.counts ≡ b.counts → facts_reply a.packages a.errors facts a.counts ≡ facts_reply b.packages b.errors facts b.counts
same-facts a b facts p e n =
    ap (λ z. facts_reply z a.errors facts a.counts) p ∙ (ap (λ z. facts_reply b.packages z facts a.counts) e ∙ ap (λ z. facts_reply b.packages b.errors facts z) n)

nothing-once : (a b : Reply) → TellsNothing a → TellsNothing b → a.packages ≡ b.packages → a.errors ≡ b.errors → a.counts ≡ b.counts → a ≡ b
nothing-once a b told other p e n = told ∙ (same-parts a b [] [] [] [] [] [] refl refl refl p e n ∙ sym other)

pub told-once : (asked : Command) (tree : List Entry) (lines : List FoundLine) (facts : List FactLine) (a b : Reply) → IsTold asked tree lines facts a → IsTold asked tree lines facts b → a.packages ≡ b.packages → a.errors ≡ b.errors → a.counts ≡ b.counts → a ≡ b
told-once Check tree lines facts a b told other p e n = nothing-once a b told other p e n
told-once Facts tree lines facts a b told other p e n = told.plain ∙ (same-facts a b facts p e n ∙ sym other.plain)
told-once Report tree lines facts a b told other p e n =
    told.plain ∙ (same-parts a b a.diagnostics b.diagnostics [] [] [] [] (one_settled lines a.diagnostics b.diagnostics told.found other.found) refl refl p e n ∙ sym other.plain)
told-once Fix tree lines facts a b told other p e n =
    let same : a.diagnostics ≡ b.diagnostics = one_settled lines a.diagnostics b.diagnostics told.found other.found in
    let mended = one_mending tree b.diagnostics a.choices b.choices a.changed b.changed (subst (λ d. IsMended tree d a.choices a.changed) same told.mended) other.mended in
    told.plain ∙ (same-parts a b a.diagnostics b.diagnostics a.choices b.choices a.changed b.changed same mended.0 mended.1 p e n ∙ sym other.plain)

-- ---- changed files

by-of : (e : Entry) (edits : List Edit) (f : ChangedFile) → Contains (changed_by e edits) f → f.path ≡ e.0
by-of e [] f h = absurd (no-item f h)
by-of e (x ∷ xs) f h = go h.0 h.1 h.2
  where
    go : (k : ℕ) → k < length (changed_by e (x ∷ xs)) → get_or (changed_by e (x ∷ xs)) k f ≡ f → f.path ≡ e.0
    go zero lt at = sym (ap (λ (c : ChangedFile). c.path) at)
    go (suc k) lt at = absurd (omega (arith, lt))

from-of : (edits : ℕ → List Edit) (n : ℕ) (es : List Entry) (f : ChangedFile) → Contains (changes_from edits n es) f → IsPathOf es f.path
from-of edits n [] f h = absurd (no-item f h)
from-of edits n (e ∷ es) f h = elim (Contains-append_cases (changed_by e (edits n)) (changes_from edits (suc n) es) f h) [
  | inl first ↦ record { entry = e; has = (0, omega arith, refl); is = by-of e (edits n) f first }
  | inr later ↦ (let r = from-of edits (suc n) es f later in record { entry = r.entry; has = (suc r.has.0, (let l = r.has.1 in omega (arith, l)), r.has.2); is = r.is })
]

none-of : (tree : List Entry) (changed : List ChangedFile) → changed ≡ [] → AreFilesOf tree changed
none-of tree changed e f h = absurd (no-item f (subst (λ (xs : List ChangedFile). Contains xs f) e h))

pub told-files : (asked : Command) (tree : List Entry) (lines : List FoundLine) (facts : List FactLine) (r : Reply) → IsTold asked tree lines facts r → AreFilesOf tree r.changed
told-files Check tree lines facts r told = none-of tree r.changed (ap (λ (x : Reply). x.changed) told)
told-files Report tree lines facts r told = none-of tree r.changed (ap (λ (x : Reply). x.changed) told.plain)
told-files Facts tree lines facts r told = none-of tree r.changed (ap (λ (x : Reply). x.changed) told.plain)
told-files Fix tree lines facts r told = λ f h. from-of _ 0 tree f (subst (λ (xs : List ChangedFile). Contains xs f) told.mended.changed_are h)

-- ---- there is one

-- diagnostics aren't without a reply that tells of them
pub told-exists : (asked : Command) (tree : List Entry) (lines : List FoundLine) (facts : List FactLine) (packages : ℕ) (errors : List ErrorLine) (counts : Counts)
    → ((r : Reply) → IsTold asked tree lines facts r → r.packages ≡ packages → r.errors ≡ errors → r.counts ≡ counts → ⊥) → ⊥
told-exists Check tree lines facts packages errors counts none = none (check_reply packages errors counts) refl refl refl refl
told-exists Facts tree lines facts packages errors counts none = none (facts_reply packages errors facts counts) (record { plain = refl }) refl refl refl
told-exists Report tree lines facts packages errors counts none =
    let o = ordered lines in
    none (reply_with packages errors o.list [] [] counts) (record { found = o.settled; plain = refl }) refl refl refl
told-exists Fix tree lines facts packages errors counts none =
    let o = ordered lines in
    choices-exist (fixes_of o.list) (λ choices chosen.
    none (reply_with packages errors o.list choices (changes tree (fixes_of o.list) choices) counts)
    (record { found = o.settled; mended = record { chosen = chosen; changed_are = refl }; plain = refl }) refl refl refl)
