use Rattle.std.proofs.Common.{◌≡◌, ℕ, zero, suc, ◌<◌, Bool, true, false, List, [], ◌∷◌, cond, ◌&&◌, ◌⊎◌, inl, inr, Some, refl, arith, ap}
use Rattle.go_tree.specs.declared.grammar.Setting.{Setting}
use Rattle.go_tree.specs.declared.grammar.Category.{Category}
use Rattle.go_tree.specs.declared.grammar.Symbol.{Symbol}
use Rattle.go_tree.specs.Classes.{level_of}
use Rattle.go_tree.specs.First.{first, nullable, first_operand}
use Rattle.go_tree.specs.Follow.{follow}
use Rattle.go_tree.specs.Inlines.{inlines}
use Rattle.go_tree.specs.Nodes.{nodes}
use Rattle.go_tree.specs.Operands.{prefixes, suffixes}
use Rattle.go_tree.specs.Rule.{Rule}
use Rattle.go_tree.specs.declared.grammar.Shape.{Shape}
use Rattle.go_tree.specs.declared.grammar.Shape.TheVariants as s
use Rattle.go_tree.specs.Choice.{follow_symbol, begins, nothing, pick, empty, whole, fits_inline, fits_node}
use Rattle.go_tree.specs.Spells.{Among}
use Rattle.std.specs.Prelude.{nat_le, ◌≤◌}
use Rattle.std.proofs.Math.Nat.{le-suc_iff}

abbrev pub implies : Bool → Bool → Bool
implies a b = cond a b true

abbrev pub below : ℕ → (ℕ → Bool) → Bool
below zero p = true
below (suc n) p = p n && below n p

abbrev pub all : {A : Type 0} → (A → Bool) → List A → Bool
all p [] = true
all p (x ∷ xs) = p x && all p xs

abbrev pub none_of : {A : Type 0} → (A → Bool) → List A → Bool
none_of p [] = true
none_of p (x ∷ xs) = cond (p x) false (none_of p xs)

-- at most one
abbrev pub lone : {A : Type 0} → (A → Bool) → List A → Bool
lone p [] = true
lone p (x ∷ xs) = cond (p x) (none_of p xs) (lone p xs)

-- what may stand after each symbol is in its follow set
abbrev pub follows : List Symbol → (ℕ → Bool) → Bool
follows [] p = true
follows (s ∷ ss) p = below 77 (λ c. implies (begins ss p c) (follow_symbol s c)) && follows ss p

abbrev pub fine_rule : Category → List Symbol → Bool
fine_rule x r = below 77 (λ c. implies (begins r nothing c) (first x c)) && (implies (empty r) (nullable x) && follows r (follow x))

abbrev pub fine_inlines : Category → Bool
fine_inlines x = below 77 (λ c. lone (fits_inline x c) (inlines x)) && all (fine_rule x) (inlines x)

abbrev pub shapes : List Shape
shapes = s.Nothing ∷ s.Name ∷ s.One ∷ s.Names ∷ s.Many ∷ s.Spread ∷ s.Guard ∷ s.Bind ∷ s.EndsInGuard ∷ s.Statement ∷ s.List ∷ s.Groups ∷ s.SpreadGroups ∷ s.Mixed ∷ []

abbrev pub lone_nodes : Category → ℕ → Bool
lone_nodes x c = all (λ s. lone (fits_node x c s) (nodes x)) shapes

abbrev pub fine_nodes : Category → Bool
fine_nodes x = below 77 (lone_nodes x) && all (λ r. fine_rule x (whole r)) (nodes x)

abbrev pub fine_prefix : Rule → Bool
fine_prefix r = below 77 (λ c. implies (begins (whole r) nothing c) (first_operand c)) && (implies (empty (whole r)) false && follows (whole r) (λ c. nat_le (level_of c) r.level))

abbrev pub fine_prefixes : Setting → Bool
fine_prefixes l = below 77 (λ c. lone (λ r. begins (whole r) nothing c) (prefixes l)) && all fine_prefix (prefixes l)

abbrev pub fine_suffix : Rule → Bool
fine_suffix r = below 77 (λ c. implies (begins (whole r) nothing c) (nat_le r.level (level_of c) && nat_le (level_of c) r.level)) && (implies (empty (whole r)) false && follows (whole r) (λ c. nat_le (level_of c) r.level))

-- The left side of a suffix is of its level at least.
abbrev pub low_suffix : Rule → Bool
low_suffix r = nat_le r.level r.left

abbrev pub fine_suffixes : Setting → Bool
fine_suffixes l = below 77 (λ c. lone (λ r. begins (whole r) nothing c) (suffixes l)) && (all fine_suffix (suffixes l) && all low_suffix (suffixes l))

-- what the tests mean
pub both : (a b : Bool) → (a && b) ≡ true → (a ≡ true) × (b ≡ true)
both true b h = (refl, h)
both false b h = cc

pub implied : (a b : Bool) → implies a b ≡ true → a ≡ true → b ≡ true
implied true b h e = h
implied false b h e = cc

pub at : (n : ℕ) (p : ℕ → Bool) (c : ℕ) → below n p ≡ true → c < n → p c ≡ true
at zero p c h lt = absurd (omega arith)
at (suc n) p c h lt = go ((le-suc_iff {m = suc c} {n = n}).0 (omega arith)) (at n p c (both (p n) (below n p) h).1)
  where
    go : (suc c ≤ n) ⊎ (suc c ≡ suc n) → (c < n → p c ≡ true) → p c ≡ true
    go (inr e) f = let e' : c ≡ n = omega arith in rw e' (both (p n) (below n p) h).0
    go (inl l) f = f (omega arith)

pub all_at : {A : Type 0} (p : A → Bool) (xs : List A) (x : A) → all p xs ≡ true → Among x xs → p x ≡ true
all_at p [] x h e = absurd e
all_at p (y ∷ xs) x h (inl e) = rw (← e) (both (p y) (all p xs) h).0
all_at p (y ∷ xs) x h (inr e) = all_at p xs x (both (p y) (all p xs) h).1 e

none_at : {A : Type 0} (p : A → Bool) (xs : List A) (x : A) → none_of p xs ≡ true → Among x xs → p x ≡ true → ⊥
none_at p [] x h e t = e
none_at p (y ∷ xs) x h (inl e) t = go (p y) refl h
  where
    go : (b : Bool) → p y ≡ b → cond b false (none_of p xs) ≡ true → ⊥
    go true q h' = cc
    go false q h' = let z : p y ≡ true = rw e t in cc
none_at p (y ∷ xs) x h (inr e) t = go (p y) h (λ h'. none_at p xs x h' e t)
  where
    go : (b : Bool) → cond b false (none_of p xs) ≡ true → (none_of p xs ≡ true → ⊥) → ⊥
    go true h' f = cc
    go false h' f = f h'

pub picked : {A : Type 0} (p : A → Bool) (xs : List A) (x : A) → lone p xs ≡ true → Among x xs → p x ≡ true → pick p xs ≡ Some x
picked p [] x h e t = absurd e
picked p (y ∷ xs) x h (inl e) t = let z : p y ≡ true = rw e t in rw z (ap Some e)
picked p (y ∷ xs) x h (inr e) t = go (p y) h (λ h'. picked p xs x h' e t)
  where
    go : (b : Bool) → cond b (none_of p xs) (lone p xs) ≡ true → (lone p xs ≡ true → pick p xs ≡ Some x) → cond b (Some y) (pick p xs) ≡ Some x
    go true h' f = absurd (none_at p xs x h' e t)
    go false h' f = f h'

pub pick_is : {A : Type 0} (p : A → Bool) (xs : List A) (x : A) → pick p xs ≡ Some x → Among x xs × (p x ≡ true)
pick_is p [] x h = cc
pick_is p (y ∷ xs) x h = go (p y) refl h (pick_is p xs x)
  where
    go : (b : Bool) → p y ≡ b → cond b (Some y) (pick p xs) ≡ Some x → (pick p xs ≡ Some x → Among x xs × (p x ≡ true)) → ((y ≡ x) ⊎ Among x xs) × (p x ≡ true)
    go true q h' f = let e : y ≡ x = cc in (inl e, rw (← e) q)
    go false q h' f = let r = f h' in (inr r.0, r.1)

pub among_shapes : (s : Shape) → Among s shapes
among_shapes s.Nothing = inl refl
among_shapes s.Name = inr (inl refl)
among_shapes s.One = inr (inr (inl refl))
among_shapes s.Names = inr (inr (inr (inl refl)))
among_shapes s.Many = inr (inr (inr (inr (inl refl))))
among_shapes s.Spread = inr (inr (inr (inr (inr (inl refl)))))
among_shapes s.Guard = inr (inr (inr (inr (inr (inr (inl refl))))))
among_shapes s.Bind = inr (inr (inr (inr (inr (inr (inr (inl refl)))))))
among_shapes s.EndsInGuard = inr (inr (inr (inr (inr (inr (inr (inr (inl refl))))))))
among_shapes s.Statement = inr (inr (inr (inr (inr (inr (inr (inr (inr (inl refl)))))))))
among_shapes s.List = inr (inr (inr (inr (inr (inr (inr (inr (inr (inr (inl refl))))))))))
among_shapes s.Groups = inr (inr (inr (inr (inr (inr (inr (inr (inr (inr (inr (inl refl)))))))))))
among_shapes s.SpreadGroups = inr (inr (inr (inr (inr (inr (inr (inr (inr (inr (inr (inr (inl refl))))))))))))
among_shapes s.Mixed = inr (inr (inr (inr (inr (inr (inr (inr (inr (inr (inr (inr (inr (inl refl)))))))))))))
