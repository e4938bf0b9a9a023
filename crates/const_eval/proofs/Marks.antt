-- Look-ups in a table.
use Rattle.std.proofs.Common.{◌≡◌, ℕ, zero, suc, ◌<◌, ◌≤◌, length, get_or, List, [], ◌∷◌, arith, refl}
use Rattle.std.specs.Prelude.{Some, None, slice_get}

pub slice_get-past : {A : Type 0} (xs : List A) (n : ℕ) → length xs ≤ n → slice_get xs n ≡ None
slice_get-past [] n h = refl
slice_get-past (x ∷ xs) zero h = absurd (omega arith)
slice_get-past (x ∷ xs) (suc n) h = slice_get-past xs n (omega arith)

pub slice_get-within : {A : Type 0} (xs : List A) (d : A) (n : ℕ) → n < length xs → slice_get xs n ≡ Some (get_or xs n d)
slice_get-within [] d n h = absurd (omega arith)
slice_get-within (x ∷ xs) d zero h = refl
slice_get-within (x ∷ xs) d (suc n) h = slice_get-within xs d n (omega arith)
