-- Positions.
use Rattle.std.proofs.Common.{◌≡◌, ◌<◌, ◌≤◌, ◌+◌, ℕ, zero, suc, Bool, true, false, not, ◌||◌, nat_lt, List, [], ◌∷◌, length, Option, Some, None, IfSome, option_map, refl, sym, ap, ◌∙◌, subst, arith}
use Rattle.std.proofs.lemmas.Bool.Decides.{nat_tests}
use Rattle.std.specs.Option.{option_map_or}
use Rattle.typed_marks.specs.Meanings.{Known, Meaning}
use Rattle.literal_rules.specs.Items.{key_of}
use Rattle.literal_rules.specs.Rows.{by_key, next_after, position, is_beyond}
use Rattle.literal_rules.specs.InCode.{AllBefore}
use Rattle.rule_words.specs.Again.{any_of, nth_of}

-- what is bounded by less is bounded by more
pub bounded_more : (o : Option ℕ) (low high : ℕ) → low ≤ high → IfSome o (λ p. p ≤ low) → IfSome o (λ p. p ≤ high)
bounded_more None low high le is = tt
bounded_more (Some p) low high le is = omega arith

pub bounded_behind : (o : Option ℕ) (most : ℕ) → IfSome o (λ p. p ≤ most) → IfSome (option_map (λ p. p + 1) o) (λ p. p ≤ most + 1)
bounded_behind None most is = tt
bounded_behind (Some p) most is = omega arith

behind_as : (o : Option ℕ) → option_map (λ p. p + 1) o ≡ option_map (λ p. suc p) o
behind_as None = refl
behind_as (Some p) = let e : p + 1 ≡ suc p = omega arith in ap (λ n. Some n) e

next_is : (i : ℕ) → suc i ≡ i + 1
next_is i = omega arith

pub position_is : (keys : List (Option Meaning)) (i : ℕ) (next : Option ℕ) (key : Option Known) (place : Option ℕ) → next ≡ next_after keys i → key ≡ key_of keys i
    → place ≡ by_key next key → place ≡ position keys i
position_is keys i next key place was here is = is ∙ (ap (λ n. by_key n key) was ∙ ap (by_key (next_after keys i)) here)

pub next_on : (keys : List (Option Meaning)) (i : ℕ) (place next : Option ℕ) → place ≡ position keys i → next ≡ option_map (λ p. p + 1) place → next ≡ next_after keys (i + 1)
next_on keys i place next was is = is ∙ (ap (option_map (λ p. p + 1)) was ∙ (behind_as (position keys i) ∙ ap (next_after keys) (next_is i)))

-- ---- nothing lies beyond

left_false : (a b : Bool) → (a || b) ≡ false → a ≡ false
left_false true b e = e
left_false false b e = refl

right_false : (a b : Bool) → (a || b) ≡ false → b ≡ false
right_false true b e = absurd cc
right_false false b e = e

none_of : (passes : ℕ → Bool) (count i : ℕ) → any_of passes count ≡ false → i < count → passes i ≡ false
none_of passes zero i e low = absurd (omega arith)
none_of passes (suc n) i e low = at (nat_lt i n) refl (none_of passes n i (left_false (any_of passes n) (passes n) e)) where
  at : (b : Bool) → nat_lt i n ≡ b → (i < n → passes i ≡ false) → passes i ≡ false
  at true is before = before (grind (arith, nat_tests))
  at false is before = let same : n ≡ i = grind (arith, nat_tests) in subst (λ (k : ℕ). passes k ≡ false) same (right_false (any_of passes n) (passes n) e)

low_of : {X : Type 0} (list : List (Option X)) (i : ℕ) (x : X) → nth_of list i ≡ Some x → i < length list
low_of [] i x e = absurd cc
low_of (o ∷ list) zero x e = omega arith
low_of (o ∷ list) (suc i) x e = let low : i < length list = low_of list i x e in omega arith

before_of : (limit p : ℕ) → not (nat_lt p limit) ≡ false → p < limit
before_of limit p e = at (nat_lt p limit) refl e where
  at : (b : Bool) → nat_lt p limit ≡ b → not b ≡ false → p < limit
  at true is no_more = grind (arith, nat_tests)
  at false is no_more = absurd cc

pub none_beyond : (limit : ℕ) (places : List (Option ℕ)) → any_of (is_beyond limit places) (length places) ≡ false → AllBefore limit places
none_beyond limit places e i p at =
    before_of limit p (ap (λ (o : Option ℕ). option_map_or (λ p. not (nat_lt p limit)) o false) (sym at) ∙ none_of (is_beyond limit places) (length places) i e (low_of places i p at))
