-- Lists joined over a range of numbers.
use Rattle.std.proofs.Common.{◌≡◌, ◌+◌, ℕ, suc, zero, List, ◌++◌, sym, ap, ◌∙◌, add-zero, zero-add, add-one, arith}
use Rattle.std.proofs.lemmas.List.{append-nil, append_assoc}
use Rattle.std.specs.List.{flat_map, range_with_len}

-- one more piece
pub pieces_suc : {A : Type 0} (f : ℕ → List A) (from n : ℕ) → flat_map f (range_with_len from (suc n)) ≡ flat_map f (range_with_len from n) ++ f (from + n)
pieces_suc f from zero = append-nil (f from) ∙ ap f (sym (add-zero from))
pieces_suc f from (suc n) =
    let moved : (from + 1) + n ≡ from + suc n = omega arith in
    ap (λ l. f from ++ l) (pieces_suc f (from + 1) n)
    ∙ sym (append_assoc (f from) (flat_map f (range_with_len (from + 1) n)) (f ((from + 1) + n)))
    ∙ ap (λ i. (f from ++ flat_map f (range_with_len (from + 1) n)) ++ f i) moved

pub pieces_more : {A : Type 0} (f : ℕ → List A) (n : ℕ) → flat_map f (range_with_len 0 (n + 1)) ≡ flat_map f (range_with_len 0 n) ++ f n
pieces_more f n = rw add-one (pieces_suc f 0 n ∙ ap (λ i. flat_map f (range_with_len 0 n) ++ f i) (zero-add n))
