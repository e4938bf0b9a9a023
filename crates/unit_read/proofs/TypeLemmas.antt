-- Defined types by their names.
use Rattle.std.proofs.Common.{◌≡◌, ℕ, zero, suc, ◌+◌, ◌-◌, ◌<◌, ◌≤◌, ◌&&◌, Bool, true, false, if◌then◌else◌, List, [], ◌∷◌, Option, Some, None, slice_get, refl, sym, ap, ◌∙◌, subst, arith, nat_eq}
use Rattle.std.proofs.lemmas.Bool.{eqb-true, eq-eqb}
use Rattle.std.specs.Str.{bytes_eq}
use Rattle.go_tree.specs.declared.tree.NodeRef.{NodeRef}
use Rattle.object_order.specs.Views.{same_key}
use Rattle.type_model.specs.declared.term.TypeName.{TypeName}
use Rattle.type_model.specs.Tables.{is_same_name}
use Rattle.type_model.specs.Declarations.{Declaration}
use Rattle.typed_tree.specs.Universe.{error_name}
use Rattle.package_faces.specs.Declaring.{declared_by}
use Rattle.unit_read.specs.Units.{Unit, type_name, named_by, defined, place_in, is_top, type_node, error_declaration, imported_from, base_of}

-- no type of another package is one of this
pub foreign : (u : Unit) (name : TypeName) (list : List NodeRef) → bytes_eq u.path name.«package» ≡ false → named_by u name list ≡ None
foreign u name [] e = refl
foreign u name (at ∷ list) e =
    let other : is_same_name (type_name u at) name ≡ false = ap (λ b. b && (bytes_eq (type_name u at).name name.name && nat_eq (type_name u at).local name.local)) e in
    rw other (foreign u name list e)

own_path : (u : Unit) (name : TypeName) (at : NodeRef) → type_node u name ≡ Some at → bytes_eq u.path name.«package» ≡ true
own_path u name at is = by (bytes_eq u.path name.«package») refl where
  by : (b : Bool) → bytes_eq u.path name.«package» ≡ b → b ≡ true
  by true e = refl
  by false e = (let none : type_node u name ≡ None = foreign u name (defined u) e in absurd cc)

-- a type of this package isn't declared from the start
pub own_base : (u : Unit) (name : TypeName) (at : NodeRef) → is_same_name name error_name ≡ false → type_node u name ≡ Some at → base_of u name ≡ None
own_base u name at other is =
    ap (λ (b : Bool). if b then Some error_declaration else imported_from u name) other
    ∙ ap (λ (b : Bool). if b then None else declared_by u.env name) (own_path u name at is)

pub named_is : (u : Unit) (name : TypeName) (at : NodeRef) (list : List NodeRef) (k : ℕ)
    → ((j : ℕ) (x : NodeRef) → slice_get list j ≡ Some x → is_same_name (type_name u x) name ≡ true → x ≡ at)
    → slice_get list k ≡ Some at → is_same_name (type_name u at) name ≡ true → named_by u name list ≡ Some at
named_is u name at [] k only is same = absurd cc
named_is u name at (x ∷ list) zero only is same =
    let one : x ≡ at = cc in
    let here : is_same_name (type_name u x) name ≡ true = ap (λ y. is_same_name (type_name u y) name) one ∙ same in
    rw here (ap Some one)
named_is u name at (x ∷ list) (suc k) only is same = by (is_same_name (type_name u x) name) refl (named_is u name at list k (λ j y at_j. only (suc j) y at_j) is same) where
  by : (b : Bool) → is_same_name (type_name u x) name ≡ b → named_by u name list ≡ Some at → named_by u name (x ∷ list) ≡ Some at
  by true e later = rw e (ap Some (only 0 x refl e))
  by false e later = rw e later

pub named_not : (u : Unit) (name : TypeName) (list : List NodeRef)
    → ((j : ℕ) (x : NodeRef) → slice_get list j ≡ Some x → is_same_name (type_name u x) name ≡ true → ⊥) → named_by u name list ≡ None
named_not u name [] none = refl
named_not u name (x ∷ list) none = by (is_same_name (type_name u x) name) refl (named_not u name list (λ j y at_j. none (suc j) y at_j)) where
  by : (b : Bool) → is_same_name (type_name u x) name ≡ b → named_by u name list ≡ None → named_by u name (x ∷ list) ≡ None
  by true e later = absurd (none 0 x refl e)
  by false e later = rw e later

and_right : (a b : Bool) → (a && b) ≡ true → b ≡ true
and_right true b e = e
and_right false b e = absurd cc

local_of : (u : Unit) (x : NodeRef) (name : TypeName) → is_same_name (type_name u x) name ≡ true → (type_name u x).local ≡ name.local
local_of u x name e =
    let rest : (bytes_eq (type_name u x).name name.name && nat_eq (type_name u x).local name.local) ≡ true = and_right (bytes_eq u.path name.«package») _ e in
    let last : nat_eq (type_name u x).local name.local ≡ true = and_right (bytes_eq (type_name u x).name name.name) _ rest in
    eqb-true (type_name u x).local name.local last

abbrev pair : ℕ → ℕ → ℕ × ℕ
pair a b = (a, b)

pub key_parts : (a b : ℕ × ℕ) → same_key a b ≡ true → a ≡ b
key_parts a b is = at (nat_eq a.0 b.0) (nat_eq a.1 b.1) refl refl is where
  at : (x y : Bool) → nat_eq a.0 b.0 ≡ x → nat_eq a.1 b.1 ≡ y → (x && y) ≡ true → a ≡ b
  at true true e f h = ap (λ (x : ℕ). pair x a.1) (eqb-true a.0 b.0 e) ∙ ap (λ (y : ℕ). pair b.0 y) (eqb-true a.1 b.1 f)
  at true false e f h = absurd cc
  at false y e f h = absurd cc

pub key_itself : (a : ℕ × ℕ) → same_key a a ≡ true
key_itself a = ap (λ x. x && nat_eq a.1 a.1) (eq-eqb a.0 a.0 refl) ∙ eq-eqb a.1 a.1 refl

pub same_node : (a b : NodeRef) → same_key (a.file, a.node) (b.file, b.node) ≡ true → a ≡ b
same_node a b e =
    let both : (a.file, a.node) ≡ (b.file, b.node) = key_parts (a.file, a.node) (b.file, b.node) e in
    ap (λ (p : ℕ × ℕ). node_ref p.0 p.1) both
  where
    node_ref : ℕ → ℕ → NodeRef
    node_ref f n = record { file = f; node = n }

-- a place that is counted on from a number isn't before it
pub counted : (at : NodeRef) (list : List NodeRef) (n : ℕ) → n ≤ place_in at list n
counted at [] n = omega arith
counted at (o ∷ list) n = by (same_key (at.file, at.node) (o.file, o.node)) (counted at list (suc n)) where
  by : (b : Bool) → suc n ≤ place_in at list (suc n) → n ≤ (if b then n else place_in at list (suc n))
  by true low = omega arith
  by false low = omega arith

later : (at o : NodeRef) (list : List NodeRef) (j : ℕ) → slice_get (o ∷ list) j ≡ Some at → same_key (at.file, at.node) (o.file, o.node) ≡ false
    → (i : ℕ) × (slice_get list i ≡ Some at)
later at o list zero has other =
    let one : o ≡ at = cc in
    let same : same_key (at.file, at.node) (o.file, o.node) ≡ true = ap (λ (x : NodeRef). same_key (at.file, at.node) (x.file, x.node)) one ∙ key_itself (at.file, at.node) in
    absurd cc
later at o list (suc i) has other = (i, has)

-- what is at the place of what the list has is this
placed : (at : NodeRef) (list : List NodeRef) (n k j : ℕ) → slice_get list j ≡ Some at → place_in at list n ≡ n + k → slice_get list k ≡ Some at
placed at [] n k j has e = absurd cc
placed at (o ∷ list) n zero j has e = by (same_key (at.file, at.node) (o.file, o.node)) refl e where
  by : (b : Bool) → same_key (at.file, at.node) (o.file, o.node) ≡ b → (if b then n else place_in at list (suc n)) ≡ n + 0 → Some o ≡ Some at
  by true same e = ap Some (sym (same_node at o same))
  by false other e = absurd (let low : suc n ≤ place_in at list (suc n) = counted at list (suc n) in omega arith)
placed at (o ∷ list) n (suc k) j has e = by (same_key (at.file, at.node) (o.file, o.node)) refl e (λ i is more. placed at list (suc n) k i is more) where
  by : (b : Bool) → same_key (at.file, at.node) (o.file, o.node) ≡ b → (if b then n else place_in at list (suc n)) ≡ n + suc k
      → ((i : ℕ) → slice_get list i ≡ Some at → place_in at list (suc n) ≡ suc n + k → slice_get list k ≡ Some at) → slice_get list k ≡ Some at
  by true same e on = absurd (omega arith)
  by false other e on = let i = later at o list j has other in on i.0 i.1 (omega arith)

-- the types of a name that isn't at package level stand where its number says
pub inner_only : (u : Unit) (name : TypeName) (j : ℕ) (x : NodeRef) → 0 < name.local → slice_get (defined u) j ≡ Some x → is_same_name (type_name u x) name ≡ true
    → slice_get (defined u) (name.local - 1) ≡ Some x
inner_only u name j x inner has same = by (is_top u x) (local_of u x name same) where
  by : (b : Bool) → (if b then 0 else place_in x (defined u) 1) ≡ name.local → slice_get (defined u) (name.local - 1) ≡ Some x
  by true e = absurd (omega arith)
  by false e = placed x (defined u) 1 (name.local - 1) j has (omega arith)
