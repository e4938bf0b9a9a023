-- What stands before in a list, one more at a time.
use Rattle.std.proofs.Common.{◌≡◌, ℕ, suc, ◌+◌, Bool, true, false, ◌||◌, is_some, if◌then◌else◌, Option, Some, None, refl, ap, ◌∙◌, arith}
use Rattle.std.specs.Option.{option_map_or}
use Rattle.rule_words.specs.Again.{any_of, is_at, is_before}

next_is : (i : ℕ) → suc i ≡ i + 1
next_is i = omega arith

pub any_on : (passes : ℕ → Bool) (i : ℕ) (found x next : Bool) → found ≡ any_of passes i → x ≡ passes i → next ≡ (found || x) → next ≡ any_of passes (i + 1)
any_on passes i found x next was here is =
    is ∙ (ap (λ f. f || x) was ∙ (ap (λ b. any_of passes i || b) here ∙ ap (any_of passes) (next_is i)))

pub kept_on : {X : Type 0} (b : Bool) (x : X) (o : Option X) → is_some (if b then Some x else o) ≡ (is_some o || b)
kept_on true x None = refl
kept_on true x (Some y) = refl
kept_on false x None = refl
kept_on false x (Some y) = refl

-- tests that are the same give the same
pub same_told : {X : Type 0} (f g : X → Bool) (o : Option X) → ((x : X) → f x ≡ g x) → option_map_or f o false ≡ option_map_or g o false
same_told f g None same = refl
same_told f g (Some x) same = same x

pub before_next : {X : Type 0} (same : X → X → Bool) (nth : ℕ → Option X) (i : ℕ) (old : X → Bool) (place : Option X) (new : X → Bool) → place ≡ nth i → ((x : X) → old x ≡ is_before same nth i x)
    → ((x : X) → new x ≡ (old x || option_map_or (λ y. same y x) place false)) → (x : X) → new x ≡ is_before same nth (i + 1) x
before_next same nth i old place new here were notes x =
    any_on (is_at same nth x) i (old x) (option_map_or (λ y. same y x) place false) (new x) (were x) (ap (λ o. option_map_or (λ y. same y x) o false) here) (notes x)
