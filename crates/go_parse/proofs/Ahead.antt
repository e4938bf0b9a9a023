-- The class that the grammar reads at a place.
use Rattle.std.proofs.Common.{◌≡◌, ◌<◌, List, ap, drop, ℕ, ◌+◌, sym, ◌∙◌, refl, arith, true, false}
use Rattle.std.specs.Prelude.{◌==◌, nat_lt}
use Rattle.std.proofs.lemmas.List.{drop-drop}
use Rattle.go_tree.specs.Classes.{ahead, next, told}

pub class_ahead : (xs : List ℕ) (i a b d r : ℕ) → a ≡ ahead (drop i xs) → b ≡ ahead (drop (i + 1) xs) → d ≡ ahead (drop (i + 2) xs) → r ≡ told a b d → r ≡ next (drop i xs)
class_ahead xs i a b d r e f g h =
    h ∙ ap (λ v. told v b d) e ∙ ap (λ v. told (ahead (drop i xs)) v d) (f ∙ ap ahead (sym (drop-drop 1 i xs)))
    ∙ ap (λ v. told (ahead (drop i xs)) (ahead (drop 1 (drop i xs))) v) (g ∙ ap ahead (sym (drop-drop 2 i xs)))

-- a token below a comma is read alone
told_alone : (a b d : ℕ) → a < 32 → told a b d ≡ a
told_alone a b d small =
    let n34 : (a == 34) ≡ false = other a 34 (omega (arith, small)) in
    let n38 : (a == 38) ≡ false = other a 38 (omega (arith, small)) in
    let n43 : (a == 43) ≡ false = other a 43 (omega (arith, small)) in
    let n42 : (a == 42) ≡ false = other a 42 (omega (arith, small)) in
    let n32 : (a == 32) ≡ false = other a 32 (omega (arith, small)) in
    let below : nat_lt a 77 ≡ true = grind arith in
    rw (n34, n38, n43, n42, n32, below) refl
  where
    other : (a k : ℕ) → a < k → (a == k) ≡ false
    other a k l = grind arith

pub class_alone : (xs : List ℕ) (i a : ℕ) → a ≡ ahead (drop i xs) → a < 32 → a ≡ next (drop i xs)
class_alone xs i a e small = sym (ap (λ v. told v (ahead (drop 1 (drop i xs))) (ahead (drop 2 (drop i xs)))) (sym e) ∙ told_alone a (ahead (drop 1 (drop i xs))) (ahead (drop 2 (drop i xs))) small)
