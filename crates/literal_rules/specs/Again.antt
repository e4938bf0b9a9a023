-- What stands twice in a list (Go 1.17, "Composite literals": "It is an error to specify multiple elements with the same field name, constant index or constant
-- key value").
use Rattle.std.specs.Prelude.{ℕ, zero, suc, Bool, true, not, ◌&&◌, is_some, List, length, Option}
use Rattle.rule_words.specs.Again.{any_of, is_again, nth_of}

-- all of the first few pass
abbrev pub all_of : (ℕ → Bool) → ℕ → Bool
all_of passes zero = true
all_of passes (suc i) = all_of passes i && passes i

-- among the first few one stands twice
abbrev pub has_again : {X : Type 0} → (X → X → Bool) → (ℕ → Option X) → ℕ → Bool
has_again same nth count = any_of (is_again same nth) count

-- ---- lists in which places may be empty

abbrev pub is_empty_at : {X : Type 0} → List (Option X) → ℕ → Bool
is_empty_at list i = not (is_some (nth_of list i))
