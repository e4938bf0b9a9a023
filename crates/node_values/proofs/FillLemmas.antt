-- The value of a node is what the rule makes of the values before it.
use Rattle.std.proofs.Common.{◌≡◌, ℕ, zero, suc, ◌+◌, List, [], ◌∷◌, ◌++◌, take, length, get_or, slice_get, Some, refl, sym, ap, ◌∙◌, subst, arith}
use Rattle.node_values.specs.Filled.{values, values_from}

more_length : {X A : Type 0} (rule : List A → X → A) (so_far : List A) (xs : List X) → length (values_from rule so_far xs) ≡ length so_far + length xs
more_length rule so_far [] = omega arith
more_length rule so_far (x ∷ xs) = more_length rule (so_far ++ rule so_far x ∷ []) xs ∙ pushed (length so_far) (length xs) (length (so_far ++ rule so_far x ∷ [])) (push_length so_far (rule so_far x)) where
  push_length : {A : Type 0} (l : List A) (v : A) → length (l ++ v ∷ []) ≡ length l + 1
  push_length [] v = refl
  push_length (y ∷ ys) v = let e = push_length ys v in omega arith

  pushed : (a b c : ℕ) → c ≡ a + 1 → c + b ≡ a + suc b
  pushed a b c e = omega arith

-- one value for each node
pub values_length : {X A : Type 0} (rule : List A → X → A) (xs : List X) → length (values rule xs) ≡ length xs
values_length rule xs = more_length rule [] xs ∙ (omega arith)

-- what stands stays
kept : {X A : Type 0} (rule : List A → X → A) (so_far : List A) (xs : List X) → take (length so_far) (values_from rule so_far xs) ≡ so_far
kept rule so_far [] = whole so_far where
  whole : {A : Type 0} (l : List A) → take (length l) l ≡ l
  whole [] = refl
  whole (y ∷ ys) = ap (λ t. y ∷ t) (whole ys)
kept {X} {A} rule so_far (x ∷ xs) = front so_far (rule so_far x) (values_from rule (so_far ++ rule so_far x ∷ []) xs) (kept rule (so_far ++ rule so_far x ∷ []) xs) where
  tail_of : {A : Type 0} (y z : A) (l m : List A) → y ∷ l ≡ z ∷ m → l ≡ m
  tail_of y z l m e = cc

  head_of : {A : Type 0} (y z : A) (l m : List A) → y ∷ l ≡ z ∷ m → y ≡ z
  head_of y z l m e = cc

  front : {A : Type 0} (l : List A) (v : A) (w : List A) → take (length (l ++ v ∷ [])) w ≡ l ++ v ∷ [] → take (length l) w ≡ l
  front [] v w e = refl
  front (y ∷ ys) v [] e = absurd cc
  front (y ∷ ys) v (z ∷ zs) e = ap (λ h. h ∷ take (length ys) zs) (head_of z y _ _ e) ∙ ap (λ t. y ∷ t) (front ys v zs (tail_of z y _ _ e))

next : {X A : Type 0} (rule : List A → X → A) (so_far : List A) (x : X) (xs : List X) (d : A) → get_or (values_from rule so_far (x ∷ xs)) (length so_far) d ≡ rule so_far x
next rule so_far x xs d = at_end so_far (rule so_far x) (values_from rule (so_far ++ rule so_far x ∷ []) xs) d (kept rule (so_far ++ rule so_far x ∷ []) xs) where
  tail_of : {A : Type 0} (y z : A) (l m : List A) → y ∷ l ≡ z ∷ m → l ≡ m
  tail_of y z l m e = cc

  head_of : {A : Type 0} (y z : A) (l m : List A) → y ∷ l ≡ z ∷ m → y ≡ z
  head_of y z l m e = cc

  at_end : {A : Type 0} (l : List A) (v : A) (w : List A) (d : A) → take (length (l ++ v ∷ [])) w ≡ l ++ v ∷ [] → get_or w (length l) d ≡ v
  at_end [] v [] d e = absurd cc
  at_end [] v (z ∷ zs) d e = head_of z v _ _ e
  at_end (y ∷ ys) v [] d e = absurd cc
  at_end (y ∷ ys) v (z ∷ zs) d e = at_end ys v zs d (tail_of z y _ _ e)

value_from : {X A : Type 0} (rule : List A → X → A) (so_far : List A) (xs : List X) (i : ℕ) (x : X) (d : A) → slice_get xs i ≡ Some x
    → get_or (values_from rule so_far xs) (length so_far + i) d ≡ rule (take (length so_far + i) (values_from rule so_far xs)) x
value_from rule so_far [] i x d there = absurd cc
value_from {X} {A} rule so_far (y ∷ ys) zero x d there =
    let same : y ≡ x = cc in
    let n : length so_far + 0 ≡ length so_far = omega arith in
    ap (λ k. get_or (values_from rule so_far (y ∷ ys)) k d) n ∙ (next rule so_far y ys d ∙ (ap (rule so_far) same
    ∙ ap (λ (l : List A). rule l x) (sym (ap (λ k. take k (values_from rule so_far (y ∷ ys))) n ∙ kept rule so_far (y ∷ ys)))))
value_from {X} {A} rule so_far (y ∷ ys) (suc i) x d there =
    let n : length (so_far ++ rule so_far y ∷ []) + i ≡ length so_far + suc i = shift (length so_far) i (length (so_far ++ rule so_far y ∷ [])) (push_length so_far (rule so_far y)) in
    subst (λ k. get_or (values_from rule so_far (y ∷ ys)) k d ≡ rule (take k (values_from rule so_far (y ∷ ys))) x) n
    (value_from rule (so_far ++ rule so_far y ∷ []) ys i x d there) where
      push_length : {A : Type 0} (l : List A) (v : A) → length (l ++ v ∷ []) ≡ length l + 1
      push_length [] v = refl
      push_length (z ∷ zs) v = let e = push_length zs v in omega arith

      shift : (a i c : ℕ) → c ≡ a + 1 → c + i ≡ a + suc i
      shift a i c e = omega arith

pub value_at : {X A : Type 0} (rule : List A → X → A) (xs : List X) (i : ℕ) (x : X) (d : A) → slice_get xs i ≡ Some x → get_or (values rule xs) i d ≡ rule (take i (values rule xs)) x
value_at rule xs i x d there = subst (λ k. get_or (values rule xs) k d ≡ rule (take k (values rule xs)) x) (left i) (value_from rule [] xs i x d there) where
  left : (i : ℕ) → 0 + i ≡ i
  left i = omega arith
