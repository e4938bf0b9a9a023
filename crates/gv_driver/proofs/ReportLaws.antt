-- The table at the end of a run gives the verdicts of the whole tree.
use Rattle.std.proofs.Common.{◌≡◌, ℕ, ◌<◌, ◌+◌, ◌⊎◌, inl, inr, Bool, true, false, Option, Some, None, List, [], ◌∷◌, ◌++◌, length, slice_get, get_or, refl, sym, ap, ◌∙◌, subst, arith, suc}
use Rattle.std.specs.List.{Contains}
use Rattle.std.proofs.lemmas.Option.{same_Some, slice_get_within}
use Rattle.std.proofs.lemmas.List.Elements.{Contains-get_or}
use Rattle.package_faces.specs.Faces.{Face}
use Rattle.action_graph.specs.declared.marks.MarkLine.{MarkLine}
use Rattle.action_graph.specs.Nodes.{Named}
use Rattle.action_graph.specs.Judging.{Judged, Env, Judges, Tells}
use Rattle.action_graph.specs.Judging.Judged.{Accepts, Refuses}
use Rattle.action_graph.proofs.JudgingLaws.{tells_accepted, tells_refused}
use Rattle.action_graph.proofs.Standing.{lines-stand}
use Rattle.gv_driver.specs.declared.tree.PackageTexts.{PackageTexts}
use Rattle.gv_driver.specs.declared.node.Answer.{Answer}
use Rattle.gv_driver.specs.declared.node.Answer.TheVariants as answer
use Rattle.gv_driver.specs.declared.node.Node.{Node}
use Rattle.gv_driver.specs.declared.reply.Verdict.{Verdict}
use Rattle.gv_driver.specs.Whole.{Checked}
use Rattle.gv_driver.specs.Whole.Checked.{checked}
use Rattle.gv_driver.specs.Standing.{AllStand, StandsIn, AreVerdictsIn}
use Rattle.gv_driver.specs.Tables.{answer_text, accepted_in, IsGood, AreRight, IsReady}
use Rattle.gv_driver.specs.Reports.{HasVerdict, IsReport, IsAnswerShown, IsShown, AreShown}
use Rattle.gv_driver.proofs.Places.{element, get-push_cases, contains-head, contains-tail, cons-cases, nothing-contained}
use Rattle.gv_driver.proofs.WholeLaws.{judged-of, same_pack}
use Rattle.gv_driver.proofs.TableLaws.{accepted-good}

good-or : (table : List (Option Node)) (q : ℕ) (b : Bool) → accepted_in (slice_get table q) ≡ b → IsGood table q ⊎ (accepted_in (slice_get table q) ≡ false)
good-or table q true e = inl e
good-or table q false e = inr e

-- each is accepted, or one isn't
find-other : (table : List (Option Node)) (xs : List ℕ) → ((q : ℕ) → Contains xs q → IsGood table q) ⊎ ((q : ℕ) × Contains xs q × (accepted_in (slice_get table q) ≡ false))
find-other table [] = inl (λ q c. absurd (nothing-contained q c))
find-other table (x ∷ xs) = elim (good-or table x (accepted_in (slice_get table x)) refl) [
  | inr other ↦ inr (x, contains-head x xs, other)
  | inl ok ↦ elim (find-other table xs) [
    | inr h ↦ inr (h.0, contains-tail x h.0 xs h.1, h.2)
    | inl all ↦ inl (λ q c. elim (cons-cases x q xs c) [
      | inl e ↦ subst (λ (y : ℕ). IsGood table y) e ok
      | inr d ↦ all q d
    ])
  ]
]

-- the marks that refuse a package stand in its files
refuses-stand : (path : List ℕ) (files : List Named) (env : Env) (lines : List MarkLine) → Judges path files env (Refuses lines) → AllStand files lines
refuses-stand path files env lines judges = λ k d l.
    let s = lines-stand path files env lines (get_or lines k d) judges (Contains-get_or lines k d l) in
    record { file = s.0; offset = s.1 }

stands-with : (tree : List PackageTexts) (p : ℕ) (j : Judged) (lines : List MarkLine) → Checked tree p j → j ≡ Refuses lines → (pack : PackageTexts) → slice_get tree p ≡ Some pack → AllStand pack.files lines
stands-with tree _ _ lines (checked p own numbers env judged at sound around good judges) e pack here =
    subst (λ (x : PackageTexts). AllStand x.files lines) (same_pack tree p own pack at here)
    (refuses-stand own.path own.files env lines (subst (λ (w : Judged). Judges own.path own.files env w) e judges))

answer-right : (tree : List PackageTexts) (p : ℕ) (pack : PackageTexts) (a : Answer) (j : Judged) (v : Verdict) → slice_get tree p ≡ Some pack → Checked tree p j → Tells j (answer_text a) → IsAnswerShown pack.files a v
    → HasVerdict tree p v
answer-right tree p pack (answer.Accepted export) j v at is tells shown =
    let t = tells_accepted j export tells in
    subst (λ (x : Verdict). HasVerdict tree p x) (sym shown) (t.0, subst (λ (w : Judged). Checked tree p w) t.1 is)
answer-right tree p pack (answer.Refused text) j v at is tells shown =
    let t = tells_refused j text tells in
    let found : Checked tree p (Refuses t.0) = subst (λ (w : Judged). Checked tree p w) t.1 is in
    let same : shown.0 ≡ t.0 = shown.3 t.0 t.2 (stands-with tree p (Refuses t.0) t.0 found refl pack at) in
    let good : Checked tree p (Refuses shown.0) = subst (λ (l : List MarkLine). Checked tree p (Refuses l)) (sym same) found in
    subst (λ (x : Verdict). HasVerdict tree p x) (sym shown.1) good

not-good : {only : ℕ} (tree : List PackageTexts) (table : List (Option Node)) → AreRight tree only table → ((p : ℕ) → IsReady tree table p → ⊥) → (q : ℕ) (i : Face) → accepted_in (slice_get table q) ≡ false → Checked tree q (Accepts i) → ⊥
not-good tree table right none q i h is = let good : accepted_in (slice_get table q) ≡ true = accepted-good tree table right none q i is in cc

verdict-right : {only : ℕ} (tree : List PackageTexts) (table : List (Option Node)) (p : ℕ) (pack : PackageTexts) (b : Bool) (o : Option Node) (v : Verdict) → AreRight tree only table → ((p : ℕ) → IsReady tree table p → ⊥)
    → slice_get tree p ≡ Some pack → pack.sound ≡ b → slice_get table p ≡ Some o → IsShown pack.files b o v → HasVerdict tree p v
verdict-right tree table p pack false o v right none at sound e shown = subst (λ (x : Verdict). HasVerdict tree p x) (sym shown) (pack, at, sound)
verdict-right tree table p pack true None v right none at sound e shown = elim (find-other table pack.imports) [
  | inl all ↦ absurd (none p (record { pack = pack; at = at; waits = e; sound = sound; accepted = all }))
  | inr h ↦ subst (λ (x : Verdict). HasVerdict tree p x) (sym shown) (pack, at, sound, (h.0, h.1, λ i is. not-good tree table right none h.0 i h.2 is))
]
verdict-right tree table p pack true (Some n) v right none at sound e shown =
    let r = right.node p n e in
    let j = judged-of tree p r.load (answer_text n.answer) r.of r.outcome in
    answer-right tree p pack n.answer j.0 v at j.1 j.2 shown

pub report-right : {only : ℕ} (tree : List PackageTexts) (table : List (Option Node)) (verdicts : List Verdict) → AreRight tree only table → ((p : ℕ) → IsReady tree table p → ⊥) → AreShown tree table verdicts (length tree)
    → IsReport tree verdicts
report-right tree table verdicts right none shown = record {
  size = shown.size;
  each = λ p v h.
      let l : p < length verdicts = slice_get_within verdicts p v h in
      let s : length verdicts ≡ length tree = shown.size in
      let t : length table ≡ length tree = right.size in
      let pack = element tree p (omega (arith, l, s)) in
      let node = element table p (omega (arith, l, s, t)) in
      verdict-right tree table p pack.0 pack.0.sound node.0 v right none pack.1 refl node.1 (shown.each p pack.0 node.0 v pack.1 node.1 h);
}

answer-stands : (files : List Named) (a : Answer) (v : Verdict) → IsAnswerShown files a v → StandsIn files v
answer-stands files (answer.Accepted export) v shown = subst (λ (x : Verdict). StandsIn files x) (sym shown) tt
answer-stands files (answer.Refused text) v shown = subst (λ (x : Verdict). StandsIn files x) (sym shown.1) shown.2

verdict-stands : (files : List Named) (b : Bool) (o : Option Node) (v : Verdict) → IsShown files b o v → StandsIn files v
verdict-stands files false o v shown = subst (λ (x : Verdict). StandsIn files x) (sym shown) tt
verdict-stands files true None v shown = subst (λ (x : Verdict). StandsIn files x) (sym shown) tt
verdict-stands files true (Some n) v shown = answer-stands files n.answer v shown

-- what a table shows stands in the files of the packages, whatever the cache held
pub report-stands : (tree : List PackageTexts) (table : List (Option Node)) (verdicts : List Verdict) → length table ≡ length tree → AreShown tree table verdicts (length tree) → AreVerdictsIn tree verdicts
report-stands tree table verdicts long shown = record {
  size = shown.size;
  stand = λ p pack v at h.
      let l : p < length tree = slice_get_within tree p pack at in
      let node = element table p (omega (arith, l, long)) in
      verdict-stands pack.files pack.sound node.0 v (shown.each p pack node.0 v at node.1 h);
}

pub shown-none : (tree : List PackageTexts) (table : List (Option Node)) → AreShown tree table [] 0
shown-none tree table = record { size = refl; each = λ p pack node v a b h. cc }

pub shown-adds : (tree : List PackageTexts) (table : List (Option Node)) (list : List Verdict) (p : ℕ) (pack : PackageTexts) (node : Option Node) (v : Verdict) → slice_get tree p ≡ Some pack → slice_get table p ≡ Some node
    → IsShown pack.files pack.sound node v → AreShown tree table list p → AreShown tree table (list ++ v ∷ []) (p + 1)
shown-adds tree table list p pack node v at node_at shown is = record {
  size = length-more list v ∙ ap (λ n. n + 1) is.size;
  each = λ q other o w a b h. elim (get-push_cases list v w q h) [
    | inl was ↦ is.each q other o w a b was
    | inr new ↦
        let same : q ≡ p = new.0 ∙ is.size in
        let e : pack ≡ other = same_Some pack other (sym at ∙ (ap (λ k. slice_get tree k) (sym same) ∙ a)) in
        let f : node ≡ o = same_Some node o (sym node_at ∙ (ap (λ k. slice_get table k) (sym same) ∙ b)) in
        subst (λ (x : Verdict). IsShown other.files other.sound o x) new.1
        (subst (λ (x : Option Node). IsShown other.files other.sound x v) f (subst (λ (x : PackageTexts). IsShown x.files x.sound node v) e shown))
  ];
}
  where
    length-more : (xs : List Verdict) (y : Verdict) → length (xs ++ y ∷ []) ≡ length xs + 1
    length-more [] y = omega arith
    length-more (x ∷ xs) y = let h : length (xs ++ y ∷ []) ≡ length xs + 1 = length-more xs y in let e : length (x ∷ xs ++ y ∷ []) ≡ suc (length (xs ++ y ∷ [])) = refl in let f : length (x ∷ xs) ≡ suc (length xs) = refl in omega (arith, h, e, f)
