-- Trees side by side, cut and joined.
use Rattle.std.proofs.Common.{◌≡◌, ℕ, zero, suc, ◌+◌, ◌≤◌, refl, ap, arith, sym, ◌∙◌}
use Rattle.go_tree.specs.Forest.{Forest, Empty, Grow, ◌⊕◌, count, front, back}

pub beside_none : (f : Forest) → f ⊕ Empty ≡ f
beside_none Empty = refl
beside_none (Grow k a b ps f) = ap (Grow k a b ps) (beside_none f)

pub beside_assoc : (f g h : Forest) → (f ⊕ g) ⊕ h ≡ f ⊕ (g ⊕ h)
beside_assoc Empty g h = refl
beside_assoc (Grow k a b ps f) g h = ap (Grow k a b ps) (beside_assoc f g h)

pub front_all : (f g : Forest) → front (count f) (f ⊕ g) ≡ f
front_all Empty g = refl
front_all (Grow k a b ps f) g = ap (Grow k a b ps) (front_all f g)

pub back_all : (f g : Forest) → back (count f) (f ⊕ g) ≡ g
back_all Empty g = refl
back_all (Grow k a b ps f) g = back_all f g

pub front_back : (n : ℕ) (f : Forest) → front n f ⊕ back n f ≡ f
front_back zero f = refl
front_back (suc n) Empty = refl
front_back (suc n) (Grow k a b ps f) = ap (Grow k a b ps) (front_back n f)

pub front_more : (n : ℕ) (f g : Forest) → n ≤ count f → front n (f ⊕ g) ≡ front n f
front_more zero f g l = refl
front_more (suc n) Empty g l = absurd (omega arith)
front_more (suc n) (Grow k a b ps f) g l = ap (Grow k a b ps) (front_more n f g (omega arith))

pub back_more : (n : ℕ) (f g : Forest) → n ≤ count f → back n (f ⊕ g) ≡ back n f ⊕ g
back_more zero f g l = refl
back_more (suc n) Empty g l = absurd (omega arith)
back_more (suc n) (Grow k a b ps f) g l = back_more n f g (omega arith)

pub front_again : (n : ℕ) (f g : Forest) → n ≤ count f → front n (front n f ⊕ g) ≡ front n f
front_again zero f g l = refl
front_again (suc n) Empty g l = absurd (omega arith)
front_again (suc n) (Grow k a b ps f) g l = ap (Grow k a b ps) (front_again n f g (omega arith))

pub back_again : (n : ℕ) (f g : Forest) → n ≤ count f → back n (front n f ⊕ g) ≡ g
back_again zero f g l = refl
back_again (suc n) Empty g l = absurd (omega arith)
back_again (suc n) (Grow k a b ps f) g l = back_again n f g (omega arith)

pub count_beside : (f g : Forest) → count (f ⊕ g) ≡ count f + count g
count_beside Empty g = omega arith
count_beside (Grow k a b ps f) g = let h = count_beside f g in omega (arith, h)

pub count_front : (n : ℕ) (f : Forest) → n ≤ count f → count (front n f) ≡ n
count_front zero f l = refl
count_front (suc n) Empty l = absurd (omega arith)
count_front (suc n) (Grow k a b ps f) l = ap suc (count_front n f (omega arith))

pub front_count : (f : Forest) → front (count f) f ≡ f
front_count Empty = refl
front_count (Grow k a b ps f) = ap (Grow k a b ps) (front_count f)

pub back_count : (f : Forest) → back (count f) f ≡ Empty
back_count Empty = refl
back_count (Grow k a b ps f) = back_count f

pub beside_cancel : (b f g : Forest) → b ⊕ f ≡ b ⊕ g → f ≡ g
beside_cancel b f g e = sym (back_all b f) ∙ ap (back (count b)) e ∙ back_all b g
