-- The loops over what stands before a file's tokens, and over its imports.
use Rattle.std.proofs.Common.{◌≡◌, ℕ, suc, ◌+◌, ◌<◌, ◌≤◌, ◌⊎◌, inl, inr, Bool, true, false, cond, ◌&&◌, Option, Some, None, List, [], ◌∷◌, ◌++◌, length, take, drop, get_or, map, refl, arith, ap, sym, ◌∙◌, subst, append_assoc, drop-cons, add-one, min}
use Rattle.std.proofs.Math.Nat.{min-eq_left, min-eq_right}
use Rattle.std.proofs.lemmas.Bool.{cases_lt}
use Rattle.std.proofs.lemmas.List.{append-nil, drop_all, take_all}
use Rattle.go_tree.specs.declared.constraint.Comment.{Comment}
use Rattle.go_tree.specs.declared.head.ImportLine.{ImportLine}
use Rattle.go_tree.specs.declared.tree.FileTree.{FileTree}
use Rattle.go_tree.specs.Constraints.{is_between, is_constraint, comment_step, constraint_from}
use Rattle.go_tree.specs.Head.{import_line, piece_imports, imports_of}

pub take_most : {A : Type 0} (xs : List A) (b e : ℕ) → e ≡ min b (length xs) → take e xs ≡ take b xs
take_most xs b e p = go (cases_lt b (length xs))
  where
    go : (b < length xs) ⊎ (length xs ≤ b) → take e xs ≡ take b xs
    go (inl l) = ap (λ n. take n xs) (p ∙ min-eq_left (let w : b ≤ length xs = omega arith in w))
    go (inr l) = ap (λ n. take n xs) (p ∙ min-eq_right l) ∙ take_all (length xs) xs (let w : length xs ≤ length xs = omega arith in w) ∙ sym (take_all b xs l)

cut : (xs : List ℕ) (i : ℕ) (d : ℕ) → i < length xs → drop i xs ≡ get_or xs i d ∷ drop (i + 1) xs
cut xs i d l = rw (add-one, drop-cons xs i d) refl

-- a byte more without a constraint
pub constraint_on : (front : List ℕ) (at : ℕ) (state : Comment) → at < length front → (is_between state && is_constraint (drop at front)) ≡ false
    → constraint_from state at (drop at front) ≡ constraint_from (comment_step state (drop at front)) (at + 1) (drop (at + 1) front)
constraint_on front at state l e =
    let q = cut front at 0 l in
    let b = get_or front at 0 in
    let bs = drop (at + 1) front in
    let e' : (is_between state && is_constraint (b ∷ bs)) ≡ false = ap (λ v. is_between state && is_constraint v) (sym q) ∙ e in
    ap (constraint_from state at) q
    ∙ ap (λ t. cond t (Some at) (constraint_from (comment_step state (b ∷ bs)) (suc at) bs)) e'
    ∙ ap (λ n. constraint_from (comment_step state (b ∷ bs)) n bs) (let z : suc at ≡ at + 1 = omega arith in z)
    ∙ ap (λ v. constraint_from (comment_step state v) (at + 1) bs) (sym q)

pub constraint_here : (front : List ℕ) (at : ℕ) (state : Comment) → at < length front → (is_between state && is_constraint (drop at front)) ≡ true → constraint_from state at (drop at front) ≡ Some at
constraint_here front at state l e =
    let q = cut front at 0 l in
    let b = get_or front at 0 in
    let bs = drop (at + 1) front in
    let e' : (is_between state && is_constraint (b ∷ bs)) ≡ true = ap (λ v. is_between state && is_constraint v) (sym q) ∙ e in
    ap (constraint_from state at) q ∙ ap (λ t. cond t (Some at) (constraint_from (comment_step state (b ∷ bs)) (suc at) bs)) e'

pub constraint_none : (front : List ℕ) (at : ℕ) (state : Comment) → length front ≤ at → constraint_from state at (drop at front) ≡ None
constraint_none front at state l = ap (constraint_from state at) (drop_all at front l)

-- the same where the rest, the test and the next state are known by what they equal
pub constraint_next : (whole : Option ℕ) (front rest : List ℕ) (at : ℕ) (state next : Comment) (found : Bool) → at < length front → rest ≡ drop at front
    → found ≡ (is_between state && is_constraint rest) → found ≡ false → next ≡ comment_step state rest
    → whole ≡ constraint_from state at (drop at front) → whole ≡ constraint_from next (at + 1) (drop (at + 1) front)
constraint_next whole front rest at state next found l r f n s w =
    let q : (is_between state && is_constraint (drop at front)) ≡ false = ap (λ v. is_between state && is_constraint v) (sym r) ∙ (sym f ∙ n) in
    let e : comment_step state (drop at front) ≡ next = ap (comment_step state) (sym r) ∙ sym s in
    w ∙ (constraint_on front at state l q ∙ ap (λ v. constraint_from v (at + 1) (drop (at + 1) front)) e)
