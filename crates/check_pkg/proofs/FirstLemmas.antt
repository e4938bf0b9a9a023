-- What stands in lists of declarations, and the first of a name.
use Rattle.std.proofs.Common.{◌≡◌, ℕ, zero, suc, ◌<◌, ◌⊎◌, ◌&&◌, Bool, true, false, nat_eq, if◌then◌else◌, List, [], ◌∷◌, ◌++◌, length, slice_get, Option, Some, None, refl, sym, ap, ◌∙◌, inl, inr}
use Rattle.std.specs.List.{Contains}
use Rattle.std.specs.Option.{option_map_or}
use Rattle.std.proofs.lemmas.Bool.{eqb-true, eq-eqb}
use Rattle.gv_base.proofs.Lists.{some_once, nothing_there}
use Rattle.go_tree.specs.Spells.{Among}
use Rattle.go_tree.specs.declared.tree.NodeRef.{NodeRef}
use Rattle.object_order.specs.Names.{IsNamed}
use Rattle.object_order.specs.Spots.{place}
use Rattle.object_order.specs.Views.{same_key}
use Rattle.object_order.specs.declared.spot.Entry.{Entry}
use Rattle.value_circles.specs.Circles.{first_named}
use Rattle.check_pkg.proofs.Lists.{contains_at}

-- ---- lists

pub of_some : {X Y : Type 0} (g : X → List Y) (o : Option X) (k : ℕ) (d : Y) → slice_get (option_map_or g o []) k ≡ Some d → (x : X) × (o ≡ Some x) × (slice_get (g x) k ≡ Some d)
of_some g None k d h = absurd cc
of_some g (Some x) k d h = (x, refl, h)

pub of_if : {Y : Type 0} (b : Bool) (xs : List Y) (k : ℕ) (d : Y) → slice_get (if b then xs else []) k ≡ Some d → (b ≡ true) × (slice_get xs k ≡ Some d)
of_if true xs k d h = (refl, h)
of_if false xs k d h = absurd cc

pub of_one : {Y : Type 0} (x d : Y) (k : ℕ) → slice_get (x ∷ []) k ≡ Some d → x ≡ d
of_one x d zero h = some_once h
of_one x d (suc k) h = absurd cc

pub append_cases : {X : Type 0} (xs ys : List X) (o : ℕ) (d : X) → slice_get (xs ++ ys) o ≡ Some d → ((i : ℕ) × (slice_get xs i ≡ Some d)) ⊎ ((j : ℕ) × (slice_get ys j ≡ Some d))
append_cases [] ys o d h = inr (o, h)
append_cases (x ∷ xs) ys zero d h = inl (0, h)
append_cases (x ∷ xs) ys (suc o) d h = elim (append_cases xs ys o d h) [
  | inl (i, e) ↦ inl (suc i, e)
  | inr later ↦ inr later
]

among_there : {X : Type 0} (x : X) (xs : List X) → Among x xs → (i : ℕ) × (slice_get xs i ≡ Some x)
among_there x [] h = absurd h
among_there x (y ∷ ys) (inl e) = (0, ap (λ z. Some z) e)
among_there x (y ∷ ys) (inr h) = let rest = among_there x ys h in (suc rest.0, rest.1)

pub among_in : {X : Type 0} (x : X) (xs : List X) → Among x xs → Contains xs x
among_in x xs h = let there = among_there x xs h in contains_at xs there.0 x there.1

-- ---- the declaration of a name

abbrev pair : ℕ → ℕ → ℕ × ℕ
pair a b = (a, b)

key_parts : (a b : ℕ × ℕ) → same_key a b ≡ true → a ≡ b
key_parts a b is = at (nat_eq a.0 b.0) (nat_eq a.1 b.1) refl refl is where
  at : (x y : Bool) → nat_eq a.0 b.0 ≡ x → nat_eq a.1 b.1 ≡ y → (x && y) ≡ true → a ≡ b
  at true true e f h = ap (λ (x : ℕ). pair x a.1) (eqb-true a.0 b.0 e) ∙ ap (λ (y : ℕ). pair b.0 y) (eqb-true a.1 b.1 f)
  at true false e f h = absurd cc
  at false y e f h = absurd cc

key_itself : (a : ℕ × ℕ) → same_key a a ≡ true
key_itself a = ap (λ x. x && nat_eq a.1 a.1) (eq-eqb a.0 a.0 refl) ∙ eq-eqb a.1 a.1 refl

same_node : (a b : NodeRef) → same_key (a.file, a.node) (b.file, b.node) ≡ true → a ≡ b
same_node a b e = ap (λ (p : ℕ × ℕ). place p.0 p.1) (key_parts (a.file, a.node) (b.file, b.node) e)

pub first_is : (at : NodeRef) (entries : List Entry) (e : Entry) → first_named at entries ≡ Some e → (k : ℕ) × (slice_get entries k ≡ Some e) × (at ≡ e.name)
first_is at [] e h = absurd (nothing_there e h)
first_is at (d ∷ entries) e h = by (same_key (at.file, at.node) (d.name.file, d.name.node)) refl h (first_is at entries e) where
  by : (b : Bool) → same_key (at.file, at.node) (d.name.file, d.name.node) ≡ b → (if b then Some d else first_named at entries) ≡ Some e
      → (first_named at entries ≡ Some e → (k : ℕ) × (slice_get entries k ≡ Some e) × (at ≡ e.name)) → (k : ℕ) × (slice_get (d ∷ entries) k ≡ Some e) × (at ≡ e.name)
  by true same is rest = (0, is, same_node at d.name same ∙ ap (λ (x : Entry). x.name) (some_once is))
  by false same is rest = let (k, there, name) = rest is in (suc k, there, name)

-- that of a name of the first of two lists stands there
pub first_in : (at : NodeRef) (xs ys : List Entry) (e : Entry) → IsNamed xs at → first_named at (xs ++ ys) ≡ Some e → (k : ℕ) × (slice_get xs k ≡ Some e) × (at ≡ e.name)
first_in at [] ys e (k, d, there, named) h = absurd cc
first_in at (x ∷ xs) ys e (k, d, there, named) h = by (same_key (at.file, at.node) (x.name.file, x.name.node)) refl h (first_in at xs ys e) where
  left : (k : ℕ) → slice_get (x ∷ xs) k ≡ Some d → same_key (at.file, at.node) (x.name.file, x.name.node) ≡ false → IsNamed xs at
  left zero there other = absurd (
      let same : at ≡ x.name = sym (ap (λ (y : Entry). y.name) (some_once there) ∙ named) in
      let key : same_key (at.file, at.node) (x.name.file, x.name.node) ≡ true = sym (ap (λ (y : NodeRef). same_key (at.file, at.node) (y.file, y.node)) same) ∙ key_itself (at.file, at.node) in
      let e : false ≡ true = sym other ∙ key in cc
      )
  left (suc k) there other = (k, d, there, named)

  by : (b : Bool) → same_key (at.file, at.node) (x.name.file, x.name.node) ≡ b → (if b then Some x else first_named at (xs ++ ys)) ≡ Some e
      → (IsNamed xs at → first_named at (xs ++ ys) ≡ Some e → (j : ℕ) × (slice_get xs j ≡ Some e) × (at ≡ e.name)) → (j : ℕ) × (slice_get (x ∷ xs) j ≡ Some e) × (at ≡ e.name)
  by true same is rest = (0, is, same_node at x.name same ∙ ap (λ (y : Entry). y.name) (some_once is))
  by false same is rest = let (j, there_j, name) = rest (left k there same) is in (suc j, there_j, name)
