-- Each tree can be read, where each text has a verdict and each tree packages.
use Rattle.std.proofs.Common.{◌≡◌, ℕ, zero, suc, ◌≤◌, ◌⊎◌, inl, inr, Bool, true, false, Option, Some, None, List, [], ◌∷◌, length, slice_get, refl, ap, subst, ◌∙◌, arith}
use Rattle.std.proofs.lemmas.Bool.{cases_lt}
use Rattle.gv_base.specs.Files.{Entry}
use Rattle.go_tree.specs.declared.head.Head.{Head}
use Rattle.parse_file.specs.Verdict.{IsVerdict}
use Rattle.parse_file.specs.declared.verdict.FileVerdict.{FileVerdict}
use Rattle.import_graph.specs.Packages.{ArePackages}
use Rattle.import_graph.specs.Sources.{is_source}
use Rattle.import_graph.specs.declared.pack.Package.{Package}
use Rattle.analysis_core.specs.declared.reply.TreeLimit.{TreeLimit}
use Rattle.analysis_core.specs.declared.reply.TreeLimit.TheVariants as limit
use Rattle.tree_report.specs.Form.{HasReading}
use Rattle.tree_report.specs.Limits.{IsOver, most_packages}
use Rattle.tree_report.specs.Reading.{AreHeads, AreRead, IsRead, head_in}

-- ---- the verdicts

read_more : (entry : Entry) (tree : List Entry) (verdict : Option FileVerdict) (verdicts : List (Option FileVerdict)) → IsRead entry verdict → AreRead tree verdicts → AreRead (entry ∷ tree) (verdict ∷ verdicts)
read_more entry tree verdict verdicts one read = record { size = ap suc read.size; each = each }
  where
    each : (n : ℕ) (e : Entry) (v : Option FileVerdict) → slice_get (entry ∷ tree) n ≡ Some e → slice_get (verdict ∷ verdicts) n ≡ Some v → IsRead e v
    each zero e v here there =
        let a : Some entry ≡ Some e = here in
        let b : Some verdict ≡ Some v = there in
        let c : entry ≡ e = cc in
        let d : verdict ≡ v = cc in
        subst (λ (x : Entry). IsRead x v) c (subst (λ (w : Option FileVerdict). IsRead entry w) d one)
    each (suc n) e v here there = read.each n e v here there

have_verdicts : ((text : List ℕ) → ((verdict : FileVerdict) → IsVerdict text verdict → ⊥) → ⊥) → (tree : List Entry) → ((verdicts : List (Option FileVerdict)) → AreRead tree verdicts → ⊥) → ⊥
have_verdicts has [] none = none [] (record { size = refl; each = λ n e v here there. absurd (let a : None ≡ Some e = here in cc) })
have_verdicts has (entry ∷ tree) none = have_verdicts has tree (λ verdicts read. by verdicts read (is_source entry.0) refl)
  where
    by : (verdicts : List (Option FileVerdict)) → AreRead tree verdicts → (b : Bool) → is_source entry.0 ≡ b → ⊥
    by verdicts read false is = none (None ∷ verdicts) (read_more entry tree None verdicts is read)
    by verdicts read true is = has entry.1 (λ verdict told. none (Some verdict ∷ verdicts) (read_more entry tree (Some verdict) verdicts (is, told) read))

-- ---- the heads

abbrev heads_of : List Entry → List (Option FileVerdict) → List (Option Head)
heads_of [] verdicts = []
heads_of (entry ∷ tree) [] = []
heads_of (entry ∷ tree) (verdict ∷ verdicts) = head_in entry verdict ∷ heads_of tree verdicts

heads_size : (tree : List Entry) (verdicts : List (Option FileVerdict)) → length verdicts ≡ length tree → length (heads_of tree verdicts) ≡ length tree
heads_size [] verdicts size = refl
heads_size (entry ∷ tree) [] size = absurd (omega (arith, size))
heads_size (entry ∷ tree) (verdict ∷ verdicts) size = ap suc (heads_size tree verdicts (omega (arith, size)))

heads_each : (tree : List Entry) (verdicts : List (Option FileVerdict)) (n : ℕ) (e : Entry) (v : Option FileVerdict) (h : Option Head)
    → slice_get tree n ≡ Some e → slice_get verdicts n ≡ Some v → slice_get (heads_of tree verdicts) n ≡ Some h → h ≡ head_in e v
heads_each [] verdicts n e v h here there head = absurd (let a : None ≡ Some e = here in cc)
heads_each (entry ∷ tree) [] n e v h here there head = absurd (let a : None ≡ Some v = there in cc)
heads_each (entry ∷ tree) (verdict ∷ verdicts) zero e v h here there head =
    let a : Some entry ≡ Some e = here in
    let b : Some verdict ≡ Some v = there in
    let c : Some (head_in entry verdict) ≡ Some h = head in
    let d : entry ≡ e = cc in
    let f : verdict ≡ v = cc in
    let g : h ≡ head_in entry verdict = cc in
    g ∙ ap (λ (x : Entry). head_in x verdict) d ∙ ap (head_in e) f
heads_each (entry ∷ tree) (verdict ∷ verdicts) (suc n) e v h here there head = heads_each tree verdicts n e v h here there head

are_heads : (tree : List Entry) (verdicts : List (Option FileVerdict)) → AreRead tree verdicts → AreHeads tree verdicts (heads_of tree verdicts)
are_heads tree verdicts read = record { size = heads_size tree verdicts read.size; each = heads_each tree verdicts }

-- ---- the reading

module _ (tree : List Entry) (none : HasReading tree → ⊥) (verdicts : List (Option FileVerdict)) (heads : List (Option Head)) (packages : List Package)
    (read : AreRead tree verdicts) (headed : AreHeads tree verdicts heads) (packed : ArePackages tree heads packages) where
  few : (IsOver limit.Packages tree → ⊥) → length packages ≤ most_packages
  few within = elim (cases_lt most_packages (length packages)) [
    | inl many ↦ absurd (within (record { verdicts = verdicts; heads = heads; packages = packages; read = read; headed = headed; packed = packed; many = many }))
    | inr low ↦ low
  ]

  within : (IsOver limit.Files tree → ⊥) → (IsOver limit.FileBytes tree → ⊥) → (IsOver limit.TreeBytes tree → ⊥) → (IsOver limit.Packages tree → ⊥) → (l : TreeLimit) → IsOver l tree → ⊥
  within a b c d limit.Files = a
  within a b c d limit.FileBytes = b
  within a b c d limit.TreeBytes = c
  within a b c d limit.Packages = d

  -- a tree is over a limit, or not
  asked : (l : TreeLimit) → ((IsOver l tree ⊎ (IsOver l tree → ⊥)) → ⊥) → ⊥
  asked l k = k (inr (λ over. k (inl over)))

  decided : ⊥
  decided = asked limit.Files (λ files. elim files [
    | inl over ↦ none (inl (limit.Files, inl (refl, over)))
    | inr a ↦ asked limit.FileBytes (λ bytes. elim bytes [
      | inl over ↦ none (inl (limit.FileBytes, inr (a, inl (refl, over))))
      | inr b ↦ asked limit.TreeBytes (λ all. elim all [
        | inl over ↦ none (inl (limit.TreeBytes, inr (a, inr (b, inl (refl, over)))))
        | inr c ↦ asked limit.Packages (λ many. elim many [
          | inl over ↦ none (inl (limit.Packages, inr (a, inr (b, inr (c, inl (refl, over))))))
          | inr d ↦ none (inr (verdicts, (heads, (packages, record { within = within a b c d; read = read; headed = headed; packed = packed; few = few d }))))
        ])
      ])
    ])
  ])

pub can-be-read : ((text : List ℕ) → ((verdict : FileVerdict) → IsVerdict text verdict → ⊥) → ⊥)
    → ((tree : List Entry) (heads : List (Option Head)) → ((packages : List Package) → ArePackages tree heads packages → ⊥) → ⊥)
    → (tree : List Entry) → (HasReading tree → ⊥) → ⊥
can-be-read has pack tree none = have_verdicts has tree (λ verdicts read.
    let heads = heads_of tree verdicts in
    pack tree heads (λ packages packed. decided tree none verdicts heads packages read (are_heads tree verdicts read) packed))
