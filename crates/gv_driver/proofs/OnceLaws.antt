-- A tree has one report, and a run leaves one cache.
use Rattle.std.proofs.Common.{◌≡◌, ℕ, ◌<◌, inl, inr, true, Some, List, [], ◌∷◌, ◌++◌, length, slice_get, map, refl, sym, ap, ◌∙◌, subst, arith}
use Rattle.std.specs.List.{Contains}
use Rattle.std.proofs.lemmas.Option.{same_Some}
use Rattle.analysis_core.specs.declared.diagnostic.Diagnostic.{Diagnostic}
use Rattle.analysis_core.specs.Findings.{AreFindings}
use Rattle.analysis_core.proofs.FindingLemmas.{spelled_is_read}
use Rattle.action_graph.specs.Analyzing.{Analyzes}
use Rattle.action_graph.proofs.RunLaws.{analyzes_once, run_outcome_of_once}
use Rattle.action_graph.specs.Nodes.{Named}
use Rattle.action_graph.specs.Work.{has_facts}
use Rattle.gv_driver.specs.Analyzers.{analyzers_of}
use Rattle.package_faces.specs.Faces.{Face}
use Rattle.action_graph.specs.declared.marks.MarkLine.{MarkLine}
use Rattle.action_graph.specs.Judging.{Env, Judged}
use Rattle.action_graph.specs.Judging.Judged.{Accepts, Refuses}
use Rattle.action_graph.proofs.JudgingLaws.{outcome_of_once}
use Rattle.fact_cache.specs.declared.texts.Input.{Input}
use Rattle.fact_cache.specs.declared.list.Entry.{Entry}
use Rattle.fact_cache.specs.Caches.{is_within, trimmed}
use Rattle.gv_driver.specs.declared.tree.PackageTexts.{PackageTexts}
use Rattle.gv_driver.specs.declared.reply.Verdict.{Verdict}
use Rattle.gv_driver.specs.declared.reply.Verdict.TheVariants as verdict
use Rattle.gv_driver.specs.Whole.{Checked}
use Rattle.gv_driver.specs.Whole.Checked.{checked}
use Rattle.gv_driver.specs.Caches.{IsHonest, IsCacheAfter, IsRight, input_of}
use Rattle.gv_driver.specs.Facts.{IsGivenIf}
use Rattle.gv_driver.specs.Reports.{AreFoundOf, HasFound, HasVerdict, IsFoundOf, IsReport, IsRunReport}
use Rattle.gv_driver.proofs.FactLaws.{given-is}
use Rattle.gv_driver.proofs.Places.{element, same-list}
use Rattle.gv_driver.proofs.CacheLaws.{honest-append, honest_trimmed, trimmed_is_within}
use Rattle.gv_driver.proofs.WholeLaws.{one-env, one-row, same_pack, shown, unique}

-- what a finding tells of the package
record Found (tree : List PackageTexts) (p : ℕ) : Type 0 where
  pack : PackageTexts
  at : slice_get tree p ≡ Some pack
  sound : pack.sound ≡ true
  accepted : (q : ℕ) → Contains pack.imports q → (i : Face) × Checked tree q (Accepts i)

found-of : (tree : List PackageTexts) (p : ℕ) (v : Judged) → Checked tree p v → Found tree p
found-of tree _ _ (checked p pack numbers env v at sound around good judges) = record {
  pack = pack;
  at = at;
  sound = sound;
  accepted = λ q c. (let i = shown numbers env q around.size (around.imports q (pack, at, c)) in (i.0, good q i.0 i.1));
}

faulty-found : (tree : List PackageTexts) (p : ℕ) (v : Judged) → HasVerdict tree p verdict.Faulty → Checked tree p v → ⊥
faulty-found tree p v (pack, at, unsound) is =
    let f = found-of tree p v is in
    let e : pack ≡ f.pack = same_pack tree p pack f.pack at f.at in
    let g : pack.sound ≡ true = ap (λ (x : PackageTexts). x.sound) e ∙ f.sound in cc

blocked-found : (tree : List PackageTexts) (p : ℕ) (v : Judged) → HasVerdict tree p verdict.Blocked → Checked tree p v → ⊥
blocked-found tree p v (pack, at, sound, (q, c, none)) is =
    let f = found-of tree p v is in
    let e : pack ≡ f.pack = same_pack tree p pack f.pack at f.at in
    let g = f.accepted q (subst (λ (x : PackageTexts). Contains x.imports q) e c) in
    none g.0 g.1

faulty-blocked : (tree : List PackageTexts) (p : ℕ) → HasVerdict tree p verdict.Faulty → HasVerdict tree p verdict.Blocked → ⊥
faulty-blocked tree p (pack, at, unsound) (other, at2, sound, why) =
    let e : pack ≡ other = same_pack tree p pack other at at2 in
    let g : pack.sound ≡ true = ap (λ (x : PackageTexts). x.sound) e ∙ sound in cc

marks-or : List MarkLine → Judged → List MarkLine
marks-or d (Accepts i) = d
marks-or d (Refuses list) = list

same-refuses : (a b : List MarkLine) → Refuses a ≡ Refuses b → a ≡ b
unfolding marks-or
same-refuses a b h = ap (marks-or a) h

-- a package has one verdict
verdict-once : (tree : List PackageTexts) (p : ℕ) (v w : Verdict) → HasVerdict tree p v → HasVerdict tree p w → v ≡ w
verdict-once tree p verdict.Faulty verdict.Faulty a b = refl
verdict-once tree p verdict.Faulty verdict.Blocked a b = absurd (faulty-blocked tree p a b)
verdict-once tree p verdict.Faulty (verdict.Refused marks) a b = absurd (faulty-found tree p (Refuses marks) a b)
verdict-once tree p verdict.Faulty verdict.Accepted a b = absurd (faulty-found tree p (Accepts b.0) a b.1)
verdict-once tree p verdict.Blocked verdict.Faulty a b = absurd (faulty-blocked tree p b a)
verdict-once tree p verdict.Blocked verdict.Blocked a b = refl
verdict-once tree p verdict.Blocked (verdict.Refused marks) a b = absurd (blocked-found tree p (Refuses marks) a b)
verdict-once tree p verdict.Blocked verdict.Accepted a b = absurd (blocked-found tree p (Accepts b.0) a b.1)
verdict-once tree p (verdict.Refused marks) verdict.Faulty a b = absurd (faulty-found tree p (Refuses marks) b a)
verdict-once tree p (verdict.Refused marks) verdict.Blocked a b = absurd (blocked-found tree p (Refuses marks) b a)
verdict-once tree p (verdict.Refused marks) (verdict.Refused list) a b = ap (λ (l : List MarkLine). verdict.Refused l) (same-refuses marks list (unique tree p (Refuses marks) (Refuses list) a b))
verdict-once tree p (verdict.Refused marks) verdict.Accepted a b = let e : Refuses marks ≡ Accepts b.0 = unique tree p (Refuses marks) (Accepts b.0) a b.1 in cc
verdict-once tree p verdict.Accepted verdict.Faulty a b = absurd (faulty-found tree p (Accepts a.0) b a.1)
verdict-once tree p verdict.Accepted verdict.Blocked a b = absurd (blocked-found tree p (Accepts a.0) b a.1)
verdict-once tree p verdict.Accepted (verdict.Refused marks) a b = let e : Accepts a.0 ≡ Refuses marks = unique tree p (Accepts a.0) (Refuses marks) a.1 b in cc
verdict-once tree p verdict.Accepted verdict.Accepted a b = refl

-- a tree has one report
pub report-once : (tree : List PackageTexts) (a b : List Verdict) → IsReport tree a → IsReport tree b → a ≡ b
report-once tree a b one two = same-list a b (one.size ∙ sym two.size) (λ p l.
    let size_a : length a ≡ length tree = one.size in
    let size_b : length b ≡ length tree = two.size in
    let v = element a p l in
    let w = element b p (omega (arith, l, size_a, size_b)) in
    v.1 ∙ (ap (λ x. Some x) (verdict-once tree p v.0 w.0 (one.each p v.0 v.1) (two.each p w.0 w.1)) ∙ sym w.1))

same-entry : (e f : Entry) → e.input ≡ f.input → e.outcome ≡ f.outcome → e ≡ f
same-entry e f i o = ap (λ (x : Input). record { input = x; outcome = e.outcome }) i ∙ ap (λ (x : List ℕ). record { input = f.input; outcome = x }) o

one-outcome : (i : Input) (a b : List ℕ) → IsRight (record { input = i; outcome = a }) → IsRight (record { input = i; outcome = b }) → a ≡ b
one-outcome i a b h g = elim h [
  | inl x ↦ elim g [
    | inl y ↦ outcome_of_once i.texts a b x.1 y.1
    | inr y ↦ (let e : i.node ≡ 0 = x.0 in let l : 0 < i.node = y.0 in absurd (omega (arith, e, l)))
  ]
  | inr x ↦ elim g [
    | inl y ↦ (let e : i.node ≡ 0 = y.0 in let l : 0 < i.node = x.0 in absurd (omega (arith, e, l)))
    | inr y ↦ run_outcome_of_once i.node i.texts a b x.1 y.1
  ]
]

entries-once : (a b : List Entry) → IsHonest a → IsHonest b → map input_of a ≡ map input_of b → a ≡ b
entries-once [] [] h g e = refl
entries-once [] (y ∷ ys) h g e = cc
entries-once (x ∷ xs) [] h g e = cc
entries-once (x ∷ xs) (y ∷ ys) h g e =
    let i : x.input ≡ y.input = cc in
    let more : map input_of xs ≡ map input_of ys = cc in
    let mine : IsRight (record { input = y.input; outcome = x.outcome }) = subst (λ (z : Input). IsRight (record { input = z; outcome = x.outcome })) i h.0 in
    let o : x.outcome ≡ y.outcome = one-outcome y.input x.outcome y.outcome mine g.0 in
    ap (λ (z : Entry). z ∷ xs) (same-entry x y i o) ∙ ap (λ (l : List Entry). y ∷ l) (entries-once xs ys h.1 g.1 more)

-- a run leaves one cache
pub cache-once : (before a b : List Entry) (inputs : List Input) → IsCacheAfter before a inputs → IsCacheAfter before b inputs → a ≡ b
cache-once before a b inputs one two =
    one.is ∙ (ap (λ (l : List Entry). trimmed (before ++ l)) (entries-once one.added two.added one.right two.right (one.whole ∙ sym two.whole)) ∙ sym two.is)

pub honest-after : (before after : List Entry) (inputs : List Input) → IsHonest before → IsCacheAfter before after inputs → IsHonest after
honest-after before after inputs h is = subst IsHonest (sym is.is) (honest_trimmed (before ++ is.added) (honest-append before is.added h is.right))

pub within-after : (before after : List Entry) (inputs : List Input) → IsCacheAfter before after inputs → is_within after ≡ true
within-after before after inputs is = ap (λ (l : List Entry). is_within l) is.is ∙ trimmed_is_within (before ++ is.added)

-- ---- what the analyzers find

same-findings : (a b : List Diagnostic) (text : List ℕ) → AreFindings a text → AreFindings b text → a ≡ b
same-findings a b text h g = same_Some a b (sym (spelled_is_read text a h) ∙ spelled_is_read text b g)

one-found : (tree : List PackageTexts) (p a : ℕ) (pack : PackageTexts) (x y : List Diagnostic) → IsFoundOf tree p a pack x → IsFoundOf tree p a pack y → x ≡ y
one-found tree p a pack x y h g =
    let env : h.env ≡ g.env = one-env tree p h.faces.0 g.faces.0 h.env g.env h.faces.1 g.faces.1 in
    let row : h.faces.0 ≡ g.faces.0 = one-row tree p h.faces.0 g.faces.0 h.env g.env h.faces.1 g.faces.1 in
    let given : h.given ≡ g.given = given-is tree a p (has_facts a) g.faces.0 g.env h.given g.given g.faces.1 (subst (λ (l : List ℕ). IsGivenIf (has_facts a) tree a l h.given) row h.are_given) g.are_given in
    let mine : Analyzes a pack.path pack.files g.env g.given h.findings h.facts =
    subst (λ (e : Env). Analyzes a pack.path pack.files e g.given h.findings h.facts) env (subst (λ (x : List Named). Analyzes a pack.path pack.files h.env x h.findings h.facts) given h.analyzes) in
    let text : h.findings ≡ g.findings = (analyzes_once a pack.path pack.files g.env g.given h.findings g.findings h.facts g.facts mine g.analyzes).0 in
    same-findings x y g.findings (subst (λ (t : List ℕ). AreFindings x t) text h.spelled) g.spelled

all-found-once : (tree : List PackageTexts) (p : ℕ) (pack : PackageTexts) (ns : List ℕ) (x y : List Diagnostic) → AreFoundOf tree p pack ns x → AreFoundOf tree p pack ns y → x ≡ y
all-found-once tree p pack [] x y h g = h ∙ sym g
all-found-once tree p pack (a ∷ ns) x y (mine, more, one, rest, e) (mine2, more2, one2, rest2, e2) =
    e ∙ (ap (λ (l : List Diagnostic). l ++ more) (one-found tree p a pack mine mine2 one one2) ∙ (ap (λ (l : List Diagnostic). mine2 ++ l) (all-found-once tree p pack ns more more2 rest rest2) ∙ sym e2))

has-found-once : (tree : List PackageTexts) (only p : ℕ) (v : Verdict) (x y : List Diagnostic) → HasFound tree only p v x → HasFound tree only p v y → x ≡ y
has-found-once tree only p verdict.Faulty x y h g = h ∙ sym g
has-found-once tree only p verdict.Blocked x y h g = h ∙ sym g
has-found-once tree only p (verdict.Refused marks) x y h g = h ∙ sym g
has-found-once tree only p verdict.Accepted x y (pack, at, all) (other, at2, all2) =
    let same : pack ≡ other = same_pack tree p pack other at at2 in
    all-found-once tree p other (analyzers_of only other.stub) x y (subst (λ (z : PackageTexts). AreFoundOf tree p z (analyzers_of only z.stub) x) same all) all2

-- beside one report of verdicts there is one of findings
pub found-once : (tree : List PackageTexts) (only : ℕ) (verdicts : List Verdict) (a b : List (List Diagnostic)) → IsReport tree verdicts → IsRunReport tree only verdicts a → IsRunReport tree only verdicts b → a ≡ b
found-once tree only verdicts a b report one two = same-list a b (one.size ∙ sym two.size) (λ p l.
    let size_a : length a ≡ length tree = one.size in
    let size_b : length b ≡ length tree = two.size in
    let size_v : length verdicts ≡ length tree = report.size in
    let x = element a p l in
    let y = element b p (omega (arith, l, size_a, size_b)) in
    let v = element verdicts p (omega (arith, l, size_a, size_v)) in
    x.1 ∙ (ap (λ (r : List Diagnostic). Some r) (has-found-once tree only p v.0 x.0 y.0 (one.each p v.0 x.0 v.1 x.1) (two.each p v.0 y.0 v.1 y.1)) ∙ sym y.1))
