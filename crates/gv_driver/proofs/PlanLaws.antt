-- A tree has one plan.
use Rattle.std.proofs.Common.{◌≡◌, ℕ, ◌<◌, ◌≤◌, ◌+◌, Option, Some, None, List, [], ◌∷◌, ◌++◌, length, slice_get, map, drop, zero, suc, refl, sym, ap, ◌∙◌, subst, arith}
use Rattle.std.specs.Prelude.{sum_by}
use Rattle.std.proofs.lemmas.Option.{same_Some, slice_get_within}
use Rattle.std.proofs.lemmas.List.Sums.{sum_by-cons}
use Rattle.fact_cache.specs.declared.texts.Input.{Input}
use Rattle.fact_cache.specs.declared.list.Entry.{Entry}
use Rattle.gv_driver.specs.declared.tree.PackageTexts.{PackageTexts}
use Rattle.gv_driver.specs.Analyzers.{analyzers_of}
use Rattle.gv_driver.specs.Caches.{load_cost, loads_of, missing_of, one_of, run_cost, runs_of}
use Rattle.gv_driver.specs.Loads.{IsNodeInput, IsPlan, IsRunInput, IsRunOf, run_input, run_over}
use Rattle.gv_driver.proofs.FactLaws.{run-of-once}
use Rattle.gv_driver.proofs.Places.{element, same-list}
use Rattle.gv_driver.proofs.WholeLaws.{same_pack, unique-input}

pub unique-run : (tree : List PackageTexts) (only p k : ℕ) (s t : Input) → IsRunInput tree only p k s → IsRunInput tree only p k t → s ≡ t
unique-run tree only p k s t a b =
    let pack : a.of.pack ≡ b.of.pack = same_pack tree p a.of.pack b.of.pack a.of.at b.of.at in
    let here : slice_get (analyzers_of only b.of.pack.stub) k ≡ Some a.analyzer = subst (λ (x : PackageTexts). slice_get (analyzers_of only x.stub) k ≡ Some a.analyzer) pack a.chosen in
    let number : a.analyzer ≡ b.analyzer = same_Some a.analyzer b.analyzer (sym here ∙ b.chosen) in
    let one : IsRunOf tree a.analyzer p (run_over a.given a.analyzer a.load) = record { analyzer = refl; of = a.of; given = a.are_given } in
    let two : IsRunOf tree b.analyzer p (run_over b.given b.analyzer b.load) = record { analyzer = refl; of = b.of; given = b.are_given } in
    let same : run_over a.given a.analyzer a.load ≡ run_over b.given b.analyzer b.load =
    run-of-once tree b.analyzer p (run_over a.given a.analyzer a.load) (run_over b.given b.analyzer b.load) (subst (λ (n : ℕ). IsRunOf tree n p (run_over a.given a.analyzer a.load)) number one) two in
    a.is ∙ (ap run_input same ∙ sym b.is)

-- a node has one input
pub unique-node : (tree : List PackageTexts) (only p k : ℕ) (s t : Input) → IsNodeInput tree only p k s → IsNodeInput tree only p k t → s ≡ t
unique-node tree only p zero s t a b = unique-input tree p s t a b
unique-node tree only p (suc k) s t a b = unique-run tree only p k s t a b

pub same-elements : (xs ys : List Input) → ((k : ℕ) (i : Input) → slice_get xs k ≡ Some i → slice_get ys k ≡ Some i) → ((k : ℕ) (i : Input) → slice_get ys k ≡ Some i → slice_get xs k ≡ Some i) → xs ≡ ys
same-elements [] [] f g = refl
same-elements [] (y ∷ ys) f g = let e : None ≡ Some y = g 0 y refl in cc
same-elements (x ∷ xs) [] f g = let e : None ≡ Some x = f 0 x refl in cc
same-elements (x ∷ xs) (y ∷ ys) f g =
    let e : y ≡ x = same_Some y x (f 0 x refl) in
    ap (λ (z : Input). z ∷ xs) (sym e) ∙ ap (λ (l : List Input). y ∷ l) (same-elements xs ys (λ k. f (suc k)) (λ k. g (suc k)))

pub unique-plan : (tree : List PackageTexts) (only : ℕ) (a b : List (List Input)) → IsPlan tree only a → IsPlan tree only b → a ≡ b
unique-plan tree only a b one two = same-list a b (one.size ∙ sym two.size) (λ p l.
    let size_a : length a ≡ length tree = one.size in
    let size_b : length b ≡ length tree = two.size in
    let x = element a p l in
    let y = element b p (omega (arith, l, size_a, size_b)) in
    let same : x.0 ≡ y.0 = same-elements x.0 y.0 (λ k i h. two.every p k y.0 i y.1 (one.right p k x.0 i x.1 h)) (λ k i h. one.every p k x.0 i x.1 (two.right p k y.0 i y.1 h)) in
    x.1 ∙ (ap (λ (r : List Input). Some r) same ∙ sym y.1))

-- ---- costs, package by package

pub costs-le : (xs ys : List (List Input)) (cost : List Input → ℕ) → length xs ≡ length ys
    → ((p : ℕ) (x y : List Input) → slice_get xs p ≡ Some x → slice_get ys p ≡ Some y → cost x ≤ cost y) → sum_by cost xs ≤ sum_by cost ys
costs-le [] [] cost l h = omega arith
costs-le [] (y ∷ ys) cost l h = let e : 0 ≡ suc (length ys) = l in absurd (omega arith)
costs-le (x ∷ xs) [] cost l h = let e : suc (length xs) ≡ 0 = l in absurd (omega arith)
costs-le (x ∷ xs) (y ∷ ys) cost l h =
    let e : suc (length xs) ≡ suc (length ys) = l in
    let first : cost x ≤ cost y = h 0 x y refl refl in
    let rest : sum_by cost xs ≤ sum_by cost ys = costs-le xs ys cost (omega arith) (λ p. h (suc p)) in
    let a : sum_by cost (x ∷ xs) ≡ cost x + sum_by cost xs = sum_by-cons cost x xs in
    let b : sum_by cost (y ∷ ys) ≡ cost y + sum_by cost ys = sum_by-cons cost y ys in
    omega (arith, first, rest, a, b)
