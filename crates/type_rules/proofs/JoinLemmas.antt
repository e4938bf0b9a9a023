-- Whether one of a list passes a test, item by item.
use Rattle.std.proofs.Common.{◌≡◌, ℕ, zero, suc, ◌+◌, ◌≤◌, Bool, true, false, ◌||◌, List, [], ◌∷◌, map, drop, length, slice_get, Some, refl, sym, ap, ◌∙◌, arith}
use Rattle.type_model.specs.Parts.{GoMethod}
use Rattle.unit_read.specs.Units.{Unit}
use Rattle.rule_words.specs.declared.read.Read.{Read}
use Rattle.rule_words.specs.Parts.{Part}
use Rattle.type_rules.specs.Joining.{any, nth_clash, clash_among}
use Rattle.type_rules.proofs.ListLemmas.{dropped_at, dropped_all}

or_regrouped : (a b c : Bool) → ((a || b) || c) ≡ (a || (b || c))
or_regrouped true b c = refl
or_regrouped false b c = refl

or_false : (a : Bool) → (a || false) ≡ a
or_false true = refl
or_false false = refl

-- of those from this place on
abbrev pub any_left : {X Y : Type 0} → (Y → Bool) → (X → Y) → List X → ℕ → Bool
any_left f g xs i = any f (map g (drop i xs))

pub any_on : {X Y : Type 0} (f : Y → Bool) (g : X → Y) (xs : List X) (i : ℕ) (x : X) (before here next : Bool) → slice_get xs i ≡ Some x
    → (before || any_left f g xs i) ≡ any f (map g xs) → here ≡ f (g x) → next ≡ (before || here) → (next || any_left f g xs (i + 1)) ≡ any f (map g xs)
any_on f g xs i x before here next at was is gives =
    ap (λ n. n || any_left f g xs (i + 1)) (gives ∙ ap (λ h. before || h) is)
    ∙ (or_regrouped before (f (g x)) (any_left f g xs (i + 1))
    ∙ (ap (λ l. before || any f (map g l)) (sym (dropped_at xs i x at)) ∙ was))

pub any_end : {X Y : Type 0} (f : Y → Bool) (g : X → Y) (xs : List X) (i : ℕ) (found : Bool) → length xs ≤ i
    → (found || any_left f g xs i) ≡ any f (map g xs) → found ≡ any f (map g xs)
any_end f g xs i found low is = sym (or_false found) ∙ (ap (λ l. found || any f (map g l)) (sym (dropped_all xs i low)) ∙ is)

-- ---- with one element more

pub clash_on : (u : Unit) (file : ℕ) (methods : List GoMethod) (reads : List Read) (ps : List Part) (k : ℕ) (found here next : Bool)
    → found ≡ clash_among u file methods reads ps k → here ≡ nth_clash u file methods reads ps k → next ≡ (found || here)
    → next ≡ clash_among u file methods reads ps (k + 1)
clash_on u file methods reads ps k found here next before is gives =
    gives ∙ (ap (λ f. f || here) before ∙ (ap (λ b. clash_among u file methods reads ps k || b) is
    ∙ (let e : suc k ≡ k + 1 = omega arith in ap (clash_among u file methods reads ps) e)))
