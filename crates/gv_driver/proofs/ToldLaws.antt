-- The facts of packages, as a table tells them.
use Rattle.std.proofs.Common.{◌≡◌, ℕ, ◌<◌, ◌^◌, zero, suc, Bool, true, false, if◌then◌else◌, Option, Some, None, List, [], ◌∷◌, ◌++◌, length, map, slice_get, refl, sym, ap, ◌∙◌, subst, arith}
use Rattle.std.proofs.lemmas.List.{length-map}
use Rattle.std.proofs.lemmas.Option.{same_Some, slice_get_within}
use Rattle.action_graph.specs.Work.{has_facts}
use Rattle.action_graph.specs.Outcomes.{facts_of}
use Rattle.gv_driver.specs.declared.tree.PackageTexts.{PackageTexts}
use Rattle.gv_driver.specs.declared.node.Answer.{Answer}
use Rattle.gv_driver.specs.declared.node.Answer.TheVariants as answer
use Rattle.gv_driver.specs.declared.node.Node.{Node}
use Rattle.gv_driver.specs.declared.node.RunNode.{RunNode}
use Rattle.gv_driver.specs.declared.reply.Verdict.{Verdict}
use Rattle.gv_driver.specs.declared.reply.Verdict.TheVariants as verdict
use Rattle.gv_driver.specs.Analyzers.{analyzers_of}
use Rattle.gv_driver.specs.Facts.{HasFacts, IsGiven}
use Rattle.gv_driver.specs.Given.{fact_if, told_at, told_facts}
use Rattle.gv_driver.specs.Loads.{IsRunOf, run_over}
use Rattle.gv_driver.specs.Reports.{AreFactsTold, AreShown, HasFactsTold, IsAnswerShown, IsFactReport, IsReport, IsShown, fact_givers}
use Rattle.gv_driver.specs.Tables.{AreRight, IsRightNode, chosen_if, is_good, numbers_in}
use Rattle.gv_driver.proofs.FactLaws.{facts-once}
use Rattle.gv_driver.proofs.FactsTold.{facts-told}
use Rattle.gv_driver.proofs.Places.{element, get-unmapped, same-list}
use Rattle.gv_driver.proofs.WholeLaws.{same_pack}

-- ---- over an honest cache

one-told : (tree : List PackageTexts) (p : ℕ) (b : Bool) (r : RunNode) (numbers : List ℕ) (more : List (ℕ × List ℕ)) → has_facts r.analyzer ≡ b → (has_facts r.analyzer ≡ true → HasFacts tree r.analyzer p (facts_of r.outcome))
    → AreFactsTold tree p (fact_givers numbers) more → AreFactsTold tree p (if b then r.analyzer ∷ fact_givers numbers else fact_givers numbers) (fact_if b r ++ more)
one-told tree p true r numbers more e has rest = (facts_of r.outcome, more, has e, rest, refl)
one-told tree p false r numbers more e has rest = rest

all-told : (tree : List PackageTexts) (p : ℕ) (runs : List RunNode) → ((k : ℕ) (r : RunNode) → slice_get runs k ≡ Some r → has_facts r.analyzer ≡ true → HasFacts tree r.analyzer p (facts_of r.outcome))
    → AreFactsTold tree p (fact_givers (numbers_in runs)) (told_facts runs)
all-told tree p [] has = refl
all-told tree p (r ∷ runs) has = one-told tree p (has_facts r.analyzer) r (numbers_in runs) (told_facts runs) refl (has 0 r refl) (all-told tree p runs (λ k. has (suc k)))

no-runs : (runs : List RunNode) → numbers_in runs ≡ [] → told_facts runs ≡ []
no-runs [] e = refl
no-runs (r ∷ runs) e = cc

run-has : (tree : List PackageTexts) (only p : ℕ) (n : Node) (right : IsRightNode tree only p n) (k : ℕ) (r : RunNode) → slice_get n.runs k ≡ Some r → has_facts r.analyzer ≡ true → HasFacts tree r.analyzer p (facts_of r.outcome)
run-has tree only p n right k r h has =
    let of : IsRunOf tree r.analyzer p (run_over right.given r.analyzer right.load) = record { analyzer = refl; of = right.of; given = right.are_given k r h } in
    facts-told tree r.analyzer p (run_over right.given r.analyzer right.load) r.outcome of has (right.runs k r h) (right.short k r h)

node-told : (tree : List PackageTexts) (only p : ℕ) (pack : PackageTexts) (n : Node) (a : Answer) (v : Verdict) → slice_get tree p ≡ Some pack → IsRightNode tree only p n → n.answer ≡ a → IsAnswerShown pack.files a v → HasFactsTold tree only p v (told_facts n.runs)
node-told tree only p pack n (answer.Accepted export) v at r is shown =
    let numbers : numbers_in n.runs ≡ analyzers_of only r.of.pack.stub = r.numbers ∙ ap (λ (x : Answer). chosen_if (is_good x) (analyzers_of only r.of.pack.stub)) is in
    let same : r.of.pack ≡ pack = same_pack tree p r.of.pack pack r.of.at at in
    let mine : numbers_in n.runs ≡ analyzers_of only pack.stub = numbers ∙ ap (λ (x : PackageTexts). analyzers_of only x.stub) same in
    let all = all-told tree p n.runs (run-has tree only p n r) in
    subst (λ (x : Verdict). HasFactsTold tree only p x (told_facts n.runs)) (sym shown) (pack, at, subst (λ (ns : List ℕ). AreFactsTold tree p (fact_givers ns) (told_facts n.runs)) mine all)
node-told tree only p pack n (answer.Refused text) v at r is shown =
    let numbers : numbers_in n.runs ≡ [] = r.numbers ∙ ap (λ (x : Answer). chosen_if (is_good x) (analyzers_of only r.of.pack.stub)) is in
    subst (λ (x : Verdict). HasFactsTold tree only p x (told_facts n.runs)) (sym shown.1) (no-runs n.runs numbers)

row-told : (tree : List PackageTexts) (only p : ℕ) (table : List (Option Node)) (pack : PackageTexts) (b : Bool) (o : Option Node) (v : Verdict) → AreRight tree only table → slice_get tree p ≡ Some pack → slice_get table p ≡ Some o
    → pack.sound ≡ b → IsShown pack.files b o v → HasFactsTold tree only p v (told_at o)
row-told tree only p table pack false None v right at here sound shown = subst (λ (x : Verdict). HasFactsTold tree only p x []) (sym shown) refl
row-told tree only p table pack false (Some n) v right at here sound shown =
    let r = right.node p n here in
    let same : r.of.pack ≡ pack = same_pack tree p r.of.pack pack r.of.at at in
    let sure : pack.sound ≡ true = ap (λ (x : PackageTexts). x.sound) (sym same) ∙ r.of.sound in
    let wrong : true ≡ false = sym sure ∙ sound in cc
row-told tree only p table pack true None v right at here sound shown = subst (λ (x : Verdict). HasFactsTold tree only p x []) (sym shown) refl
row-told tree only p table pack true (Some n) v right at here sound shown = node-told tree only p pack n n.answer v at (right.node p n here) refl shown

pub told-right : (tree : List PackageTexts) (only : ℕ) (table : List (Option Node)) (verdicts : List Verdict) (facts : List (List (ℕ × List ℕ))) → AreRight tree only table → AreShown tree table verdicts (length tree) → facts ≡ map told_at table
    → IsFactReport tree only verdicts facts
told-right tree only table verdicts facts right shown is = record {
  size = ap (λ (l : List (List (ℕ × List ℕ))). length l) is ∙ (length-map table told_at ∙ right.size);
  each = λ p v fs h g.
      let node = get-unmapped told_at table p fs (subst (λ (l : List (List (ℕ × List ℕ))). slice_get l p ≡ Some fs) is g) in
      let low : p < length verdicts = slice_get_within verdicts p v h in
      let size : length verdicts ≡ length tree = shown.size in
      let pack = element tree p (omega (arith, low, size)) in
      subst (λ (x : List (ℕ × List ℕ)). HasFactsTold tree only p v x) node.2
      (row-told tree only p table pack.0 pack.0.sound node.0 v right pack.1 node.1 refl (shown.each p pack.0 node.0 v pack.1 node.1 h));
}

-- ---- one report

all-told-once : (tree : List PackageTexts) (p : ℕ) (ns : List ℕ) (x y : List (ℕ × List ℕ)) → AreFactsTold tree p ns x → AreFactsTold tree p ns y → x ≡ y
all-told-once tree p [] x y h g = h ∙ sym g
all-told-once tree p (a ∷ ns) x y (text, more, has, rest, e) (text2, more2, has2, rest2, e2) =
    e ∙ (ap (λ (t : List ℕ). (a, t) ∷ more) (facts-once tree a p text text2 has has2) ∙ (ap (λ (l : List (ℕ × List ℕ)). (a, text2) ∷ l) (all-told-once tree p ns more more2 rest rest2) ∙ sym e2))

has-told-once : (tree : List PackageTexts) (only p : ℕ) (v : Verdict) (x y : List (ℕ × List ℕ)) → HasFactsTold tree only p v x → HasFactsTold tree only p v y → x ≡ y
has-told-once tree only p verdict.Faulty x y h g = h ∙ sym g
has-told-once tree only p verdict.Blocked x y h g = h ∙ sym g
has-told-once tree only p (verdict.Refused marks) x y h g = h ∙ sym g
has-told-once tree only p verdict.Accepted x y (pack, at, all) (other, at2, all2) =
    let same : pack ≡ other = same_pack tree p pack other at at2 in
    all-told-once tree p (fact_givers (analyzers_of only other.stub)) x y (subst (λ (z : PackageTexts). AreFactsTold tree p (fact_givers (analyzers_of only z.stub)) x) same all) all2

-- beside one report of verdicts there is one of facts
pub facts-report-once : (tree : List PackageTexts) (only : ℕ) (verdicts : List Verdict) (a b : List (List (ℕ × List ℕ))) → IsReport tree verdicts → IsFactReport tree only verdicts a → IsFactReport tree only verdicts b → a ≡ b
facts-report-once tree only verdicts a b report one two = same-list a b (one.size ∙ sym two.size) (λ p l.
    let size_a : length a ≡ length tree = one.size in
    let size_b : length b ≡ length tree = two.size in
    let size_v : length verdicts ≡ length tree = report.size in
    let x = element a p l in
    let y = element b p (omega (arith, l, size_a, size_b)) in
    let v = element verdicts p (omega (arith, l, size_a, size_v)) in
    x.1 ∙ (ap (λ (r : List (ℕ × List ℕ)). Some r) (has-told-once tree only p v.0 x.0 y.0 (one.each p v.0 x.0 v.1 x.1) (two.each p v.0 y.0 v.1 y.1)) ∙ sym y.1))
