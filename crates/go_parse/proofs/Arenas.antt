use Rattle.std.proofs.Common.{◌≡◌, ℕ, zero, suc, ◌+◌, ◌≤◌, List, [], ◌∷◌, ◌++◌, length, take, drop, refl, ap, arith, append_assoc, length-append, sym, ◌∙◌, max}
use Rattle.go_tree.specs.declared.tree.NodeKind.{NodeKind}
use Rattle.go_tree.specs.Forest.{Forest, Empty, Grow, ◌⊕◌, count, front, back}
use Rattle.go_tree.specs.Arena.{node_of, size, roots, flat, depth, highest, heights, kinds}
use Rattle.go_parse.proofs.Forests.{front_back, count_front}

pub length_roots : (m : ℕ) (f : Forest) → length (roots m f) ≡ count f
length_roots m Empty = refl
length_roots m (Grow k a b ps f) = ap suc (length_roots (m + suc (size ps)) f)

pub size_beside : (f g : Forest) → size (f ⊕ g) ≡ size f + size g
size_beside Empty g = omega arith
size_beside (Grow k a b ps f) g = let h = size_beside f g in omega (arith, h)

pub roots_beside : (m : ℕ) (f g : Forest) → roots m (f ⊕ g) ≡ roots m f ++ roots (m + size f) g
roots_beside m Empty g = ap (λ v. roots v g) (omega arith)
roots_beside m (Grow k a b ps f) g =
    let e : (m + suc (size ps)) + size f ≡ m + (size ps + suc (size f)) = omega arith in
    ap (λ v. (m + size ps) ∷ v) (roots_beside (m + suc (size ps)) f g ∙ ap (λ v. roots (m + suc (size ps)) f ++ roots v g) e)

pub flat_beside : (m : ℕ) (f g : Forest) → flat m (f ⊕ g) ≡ flat m f ++ flat (m + size f) g
flat_beside m Empty g = ap (λ v. flat v g) (omega arith)
flat_beside m (Grow k a b ps f) g =
    let e : (m + suc (size ps)) + size f ≡ m + (size ps + suc (size f)) = omega arith in
    let h = flat_beside (m + suc (size ps)) f g ∙ ap (λ v. flat (m + suc (size ps)) f ++ flat v g) e in
    ap (λ v. flat m ps ++ (node_of k a b (roots m ps) ∷ v)) h
    ∙ sym (append_assoc (flat m ps) (node_of k a b (roots m ps) ∷ flat (m + suc (size ps)) f) (flat (m + (size ps + suc (size f))) g))

pub length_flat : (m : ℕ) (f : Forest) → length (flat m f) ≡ size f
length_flat m Empty = refl
length_flat m (Grow k a b ps f) =
    length-append (flat m ps) (node_of k a b (roots m ps) ∷ flat (m + suc (size ps)) f)
    ∙ (let p = length_flat m ps in let q = length_flat (m + suc (size ps)) f in omega (arith, p, q))

take_exact : {A : Type 0} (n : ℕ) (xs ys : List A) → length xs ≡ n → take n (xs ++ ys) ≡ xs
take_exact zero [] ys e = refl
take_exact zero (x ∷ xs) ys e = absurd (omega (arith, e))
take_exact (suc n) [] ys e = absurd (omega (arith, e))
take_exact (suc n) (x ∷ xs) ys e = ap (λ v. x ∷ v) (take_exact n xs ys (omega (arith, e)))

drop_exact : {A : Type 0} (n : ℕ) (xs ys : List A) → length xs ≡ n → drop n (xs ++ ys) ≡ ys
drop_exact zero [] ys e = refl
drop_exact zero (x ∷ xs) ys e = absurd (omega (arith, e))
drop_exact (suc n) [] ys e = absurd (omega (arith, e))
drop_exact (suc n) (x ∷ xs) ys e = drop_exact n xs ys (omega (arith, e))

-- the roots, cut after the first b
cut_roots : (b : ℕ) (g : Forest) → roots 0 g ≡ roots 0 (front b g) ++ roots (size (front b g)) (back b g)
cut_roots b g = ap (roots 0) (sym (front_back b g)) ∙ roots_beside 0 (front b g) (back b g) ∙ ap (λ v. roots 0 (front b g) ++ roots v (back b g)) (omega arith)

cut_flat : (b : ℕ) (g : Forest) → flat 0 g ≡ flat 0 (front b g) ++ flat (size (front b g)) (back b g)
cut_flat b g = ap (flat 0) (sym (front_back b g)) ∙ flat_beside 0 (front b g) (back b g) ∙ ap (λ v. flat 0 (front b g) ++ flat v (back b g)) (omega arith)

low_roots : (b : ℕ) (g : Forest) → b ≤ count g → take b (roots 0 g) ≡ roots 0 (front b g)
low_roots b g l = ap (take b) (cut_roots b g) ∙ take_exact b (roots 0 (front b g)) _ (length_roots 0 (front b g) ∙ count_front b g l)

high_roots : (b : ℕ) (g : Forest) → b ≤ count g → drop b (roots 0 g) ≡ roots (size (front b g)) (back b g)
high_roots b g l = ap (drop b) (cut_roots b g) ∙ drop_exact b (roots 0 (front b g)) _ (length_roots 0 (front b g) ∙ count_front b g l)

pub close_flat : (b : ℕ) (g : Forest) (k : NodeKind) (a l : ℕ) → b ≤ count g
    → flat 0 (front b g ⊕ Grow k a l (back b g) Empty) ≡ flat 0 g ++ node_of k a l (drop b (roots 0 g)) ∷ []
close_flat b g k a l h =
    flat_beside 0 (front b g) (Grow k a l (back b g) Empty)
    ∙ ap (λ v. flat 0 (front b g) ++ flat v (Grow k a l (back b g) Empty)) (let e : 0 + size (front b g) ≡ size (front b g) = omega arith in e)
    ∙ ap (λ v. flat 0 (front b g) ++ (flat (size (front b g)) (back b g) ++ node_of k a l v ∷ [])) (sym (high_roots b g h))
    ∙ sym (append_assoc (flat 0 (front b g)) (flat (size (front b g)) (back b g)) (node_of k a l (drop b (roots 0 g)) ∷ []))
    ∙ ap (λ v. v ++ node_of k a l (drop b (roots 0 g)) ∷ []) (sym (cut_flat b g))

pub close_roots : (b : ℕ) (g : Forest) (k : NodeKind) (a l : ℕ) → b ≤ count g
    → roots 0 (front b g ⊕ Grow k a l (back b g) Empty) ≡ take b (roots 0 g) ++ length (flat 0 g) ∷ []
close_roots b g k a l h =
    let e : (0 + size (front b g)) + size (back b g) ≡ length (flat 0 g) =
    sym (length_flat 0 g ∙ ap size (sym (front_back b g)) ∙ size_beside (front b g) (back b g) ∙ omega arith) in
    roots_beside 0 (front b g) (Grow k a l (back b g) Empty)
    ∙ ap (λ v. roots 0 (front b g) ++ v ∷ []) e
    ∙ ap (λ v. v ++ length (flat 0 g) ∷ []) (sym (low_roots b g h))

pub heights_beside : (f g : Forest) → heights (f ⊕ g) ≡ heights f ++ heights g
heights_beside Empty g = refl
heights_beside (Grow k a b ps f) g = ap (λ v. suc (depth ps) ∷ v) (heights_beside f g)

pub length_heights : (f : Forest) → length (heights f) ≡ count f
length_heights Empty = refl
length_heights (Grow k a b ps f) = ap suc (length_heights f)

pub highest_heights : (f : Forest) → highest (heights f) ≡ depth f
highest_heights Empty = refl
highest_heights (Grow k a b ps f) = ap (λ m. max (suc (depth ps)) m) (highest_heights f)

cut_heights : (b : ℕ) (g : Forest) → heights g ≡ heights (front b g) ++ heights (back b g)
cut_heights b g = ap heights (sym (front_back b g)) ∙ heights_beside (front b g) (back b g)

pub close_heights : (b : ℕ) (g : Forest) (k : NodeKind) (a l : ℕ) → b ≤ count g
    → heights (front b g ⊕ Grow k a l (back b g) Empty) ≡ take b (heights g) ++ suc (highest (drop b (heights g))) ∷ []
close_heights b g k a l h =
    let c = length_heights (front b g) ∙ count_front b g h in
    let low : take b (heights g) ≡ heights (front b g) = ap (take b) (cut_heights b g) ∙ take_exact b (heights (front b g)) _ c in
    let high : drop b (heights g) ≡ heights (back b g) = ap (drop b) (cut_heights b g) ∙ drop_exact b (heights (front b g)) _ c in
    heights_beside (front b g) (Grow k a l (back b g) Empty)
    ∙ ap (λ v. heights (front b g) ++ suc v ∷ []) (sym (ap highest high ∙ highest_heights (back b g)))
    ∙ ap (λ v. v ++ suc (highest (drop b (heights g))) ∷ []) (sym low)

kinds_beside : (f g : Forest) → kinds (f ⊕ g) ≡ kinds f ++ kinds g
kinds_beside Empty g = refl
kinds_beside (Grow k a b ps f) g = ap (λ v. k ∷ v) (kinds_beside f g)

pub length_kinds : (f : Forest) → length (kinds f) ≡ count f
length_kinds Empty = refl
length_kinds (Grow k a b ps f) = ap suc (length_kinds f)

pub kinds_back : (b : ℕ) (g : Forest) → drop b (kinds g) ≡ kinds (back b g)
kinds_back zero g = refl
kinds_back (suc b) Empty = refl
kinds_back (suc b) (Grow k l m ps f) = kinds_back b f

kinds_front : (b : ℕ) (g : Forest) → take b (kinds g) ≡ kinds (front b g)
kinds_front zero g = refl
kinds_front (suc b) Empty = refl
kinds_front (suc b) (Grow k l m ps f) = ap (λ v. k ∷ v) (kinds_front b f)

pub close_kinds : (b : ℕ) (g : Forest) (k : NodeKind) (a l : ℕ)
    → kinds (front b g ⊕ Grow k a l (back b g) Empty) ≡ take b (kinds g) ++ k ∷ []
close_kinds b g k a l = kinds_beside (front b g) (Grow k a l (back b g) Empty) ∙ ap (λ v. v ++ k ∷ []) (sym (kinds_front b g))
