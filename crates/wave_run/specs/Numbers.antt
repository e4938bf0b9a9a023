-- Lists of numbers are compared by weight: two lists that weigh the same, however numbers are weighed, have the same numbers, each as many times.
use Rattle.std.specs.Prelude.{◌≡◌, ◌==◌, ℕ, zero, suc, ◌+◌, ◌⊎◌, List, [], ◌∷◌, if◌then◌else◌}

abbrev pub total : {A : Type 0} → (A → ℕ) → List A → ℕ
total f [] = 0
total f (x ∷ xs) = f x + total f xs

-- the weight of the numbers below n
abbrev pub below : (ℕ → ℕ) → ℕ → ℕ
below f zero = 0
below f (suc n) = below f n + f n

-- the list has each number below n once, and no other
abbrev pub AreBelow : ℕ → List ℕ → Type 0
AreBelow n numbers = (f : ℕ → ℕ) → total f numbers ≡ below f n

-- how often x stands in the list
abbrev pub times : ℕ → List ℕ → ℕ
times x numbers = total (λ y. if y == x then 1 else 0) numbers

-- a stands at some place
abbrev pub Among : {A : Type 0} → A → List A → Type 0
Among a [] = ⊥
Among a (x ∷ xs) = (a ≡ x) ⊎ Among a xs
