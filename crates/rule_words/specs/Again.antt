-- What stands before in a list.
use Rattle.std.specs.Prelude.{ℕ, zero, suc, Bool, false, ◌||◌, List, Option, slice_get, option_and_then}
use Rattle.std.specs.Option.{option_map_or}

-- one of the first few passes
abbrev pub any_of : (ℕ → Bool) → ℕ → Bool
any_of passes zero = false
any_of passes (suc i) = any_of passes i || passes i

-- this is the same as what stands at a place
abbrev pub is_at : {X : Type 0} → (X → X → Bool) → (ℕ → Option X) → X → ℕ → Bool
is_at same nth x j = option_map_or (λ y. same y x) (nth j) false

-- one that is the same stands among the first few
abbrev pub is_before : {X : Type 0} → (X → X → Bool) → (ℕ → Option X) → ℕ → X → Bool
is_before same nth i x = any_of (is_at same nth x) i

-- what stands at a place stands before it too
abbrev pub is_again : {X : Type 0} → (X → X → Bool) → (ℕ → Option X) → ℕ → Bool
is_again same nth i = option_map_or (is_before same nth i) (nth i) false

-- ---- lists in which places may be empty

abbrev pub nth_of : {X : Type 0} → List (Option X) → ℕ → Option X
nth_of {X} list i = option_and_then (λ (o : Option X). o) (slice_get list i)
