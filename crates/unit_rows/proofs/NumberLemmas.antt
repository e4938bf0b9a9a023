-- The defined types of a package, and their numbers.
use Rattle.std.proofs.Common.{◌≡◌, ℕ, zero, suc, ◌+◌, ◌||◌, Bool, true, false, cond, if◌then◌else◌, List, [], ◌∷◌, length, slice_get, Option, Some, None, option_map, refl, sym, ap, ◌∙◌, arith}
use Rattle.std.specs.List.{position_from}
use Rattle.std.specs.Option.{option_map_or}
use Rattle.go_tree.specs.declared.tree.Node.{Node}
use Rattle.go_tree.specs.declared.tree.NodeRef.{NodeRef}
use Rattle.type_model.specs.declared.term.TypeName.{TypeName}
use Rattle.object_order.specs.Spots.{place}
use Rattle.object_order.specs.Views.{same_key}
use Rattle.package_objects.specs.Declares.{part}
use Rattle.const_tree.proofs.ListLemmas.{gather_cases}
use Rattle.unit_read.specs.Units.{Unit, nodes_at, node_at, is_this, is_among, place_in, is_defined_node, named_node, named, defined_by, defined_at, defined_in, defined, type_name, type_name_at}
use Rattle.unit_read.proofs.TypeLemmas.{key_itself, same_node}
use Rattle.unit_rows.specs.Rows.{local_by, local_among}

-- ---- places in a list

abbrev pub is_other : NodeRef → NodeRef → Bool
is_other at other = is_this at (Some other)

placed : (at : NodeRef) (list : List NodeRef) (n i : ℕ) → n ≡ i + 1
    → (if is_among at list then Some (place_in at list n) else None) ≡ option_map (λ k. k + 1) (position_from (is_other at) i list)
placed at [] n i e = refl
placed at (o ∷ list) n i e = by (same_key (at.file, at.node) (o.file, o.node)) (placed at list (suc n) (i + 1) (omega arith)) where
  by : (b : Bool) → (if is_among at list then Some (place_in at list (suc n)) else None) ≡ option_map (λ k. k + 1) (position_from (is_other at) (i + 1) list)
      → (if (b || is_among at list) then Some (if b then n else place_in at list (suc n)) else None) ≡ option_map (λ k. k + 1) (cond b (Some i) (position_from (is_other at) (i + 1) list))
  by true later = ap Some e
  by false later = later

-- the number of a node's type, if the list has the node
pub local_is : (u : Unit) (list : List NodeRef) (at : NodeRef) → list ≡ defined u → local_among u list at ≡ option_map (λ (n : TypeName). n.local) (type_name_at u at)
local_is u list at all =
    ap (λ (xs : List NodeRef). local_among u xs at) all
    ∙ (twice (position_from (is_other at) 0 (defined u)) ∙ (ap (option_map (local_by u at)) (sym (placed at (defined u) 1 0 (omega arith))) ∙ by (is_among at (defined u)))) where
      twice : (o : Option ℕ) → option_map (λ k. local_by u at (k + 1)) o ≡ option_map (local_by u at) (option_map (λ k. k + 1) o)
      twice None = refl
      twice (Some k) = refl

      by : (b : Bool) → option_map (local_by u at) (if b then Some (place_in at (defined u) 1) else None) ≡ option_map (λ (n : TypeName). n.local) (if b then Some (type_name u at) else None)
      by true = refl
      by false = refl

pub among_there : (at : NodeRef) (list : List NodeRef) (k : ℕ) → slice_get list k ≡ Some at → is_among at list ≡ true
among_there at [] k e = absurd cc
among_there at (o ∷ list) zero e =
    let one : at ≡ o = cc in
    ap (λ b. b || is_among at list) (sym (ap (λ (x : NodeRef). same_key (at.file, at.node) (x.file, x.node)) one) ∙ key_itself (at.file, at.node))
among_there at (o ∷ list) (suc k) e = by (same_key (at.file, at.node) (o.file, o.node)) (among_there at list k e) where
  by : (b : Bool) → is_among at list ≡ true → (b || is_among at list) ≡ true
  by true later = refl
  by false later = later

pub among_is : (at : NodeRef) (list : List NodeRef) → is_among at list ≡ true → (k : ℕ) × (slice_get list k ≡ Some at)
among_is at [] e = absurd cc
among_is at (o ∷ list) e = by (same_key (at.file, at.node) (o.file, o.node)) refl (λ h. among_is at list h) e where
  by : (b : Bool) → same_key (at.file, at.node) (o.file, o.node) ≡ b → (is_among at list ≡ true → (k : ℕ) × (slice_get list k ≡ Some at))
      → (b || is_among at list) ≡ true → (k : ℕ) × (slice_get (o ∷ list) k ≡ Some at)
  by true same rest h = (0, ap Some (sym (same_node at o same)))
  by false same rest h = let r = rest h in (suc r.0, r.1)

-- ---- names of types are nodes

abbrev IsIn : ℕ → List Node → NodeRef → Type 0
IsIn f nodes at = (node : Node) × (at.file ≡ f) × (slice_get nodes at.node ≡ Some node)

pub none_there : {X : Type 0} (x : X) (j : ℕ) → slice_get [] j ≡ Some x → ⊥
none_there x j e = cc

pub only_there : (x y : NodeRef) (j : ℕ) → slice_get (x ∷ []) j ≡ Some y → x ≡ y
only_there x y zero e = cc
only_there x y (suc j) e = absurd cc

in_node : (f : ℕ) (nodes : List Node) (n j : ℕ) (at : NodeRef) → slice_get (named_node f nodes n) j ≡ Some at → IsIn f nodes at
in_node f nodes n j at e = by (slice_get nodes n) refl e where
  by : (o : Option Node) → slice_get nodes n ≡ o → slice_get (option_map_or (λ (node : Node). place f n ∷ []) o []) j ≡ Some at → IsIn f nodes at
  by None is h = absurd (none_there at j h)
  by (Some node) is h =
      let same = only_there (place f n) at j h in
      (node, ap (λ (x : NodeRef). x.file) (sym same), ap (λ (x : NodeRef). slice_get nodes x.node) (sym same) ∙ is)

in_name : (f : ℕ) (nodes : List Node) (o : Option ℕ) (j : ℕ) (at : NodeRef) → slice_get (named f nodes o) j ≡ Some at → IsIn f nodes at
in_name f nodes None j at e = absurd (none_there at j e)
in_name f nodes (Some n) j at e = in_node f nodes n j at e

in_by : (f : ℕ) (nodes : List Node) (node : Node) (j : ℕ) (at : NodeRef) → slice_get (defined_by f nodes node) j ≡ Some at → IsIn f nodes at
in_by f nodes node j at e = by (is_defined_node node.kind) e where
  by : (b : Bool) → slice_get (if b then named f nodes (part node 0) else []) j ≡ Some at → IsIn f nodes at
  by true h = in_name f nodes (part node 0) j at h
  by false h = absurd (none_there at j h)

in_at : (f : ℕ) (nodes : List Node) (n j : ℕ) (at : NodeRef) → slice_get (defined_at f nodes n) j ≡ Some at → IsIn f nodes at
in_at f nodes n j at e = by (slice_get nodes n) e where
  by : (o : Option Node) → slice_get (option_map_or (defined_by f nodes) o []) j ≡ Some at → IsIn f nodes at
  by None h = absurd (none_there at j h)
  by (Some node) h = in_by f nodes node j at h

pub defined_node : (u : Unit) (k : ℕ) (at : NodeRef) → slice_get (defined u) k ≡ Some at → (node : Node) × (node_at u at ≡ Some node)
defined_node u k at e =
    let file = gather_cases (defined_in u) (length u.trees) k at e in
    let nth = gather_cases (defined_at file.0 (nodes_at u file.0)) (length (nodes_at u file.0)) file.1 at file.3 in
    let there = in_at file.0 (nodes_at u file.0) nth.0 nth.1 at nth.3 in
    (there.0, ap (λ (g : ℕ). slice_get (nodes_at u g) at.node) there.1 ∙ there.2)

-- what is no node is no name of a type
pub outside_defined : (u : Unit) (at : NodeRef) → node_at u at ≡ None → option_map (λ (n : TypeName). n.local) (type_name_at u at) ≡ None
outside_defined u at none = by (is_among at (defined u)) refl where
  by : (b : Bool) → is_among at (defined u) ≡ b → option_map (λ (n : TypeName). n.local) (if b then Some (type_name u at) else None) ≡ None
  by true e =
      let k = among_is at (defined u) e in
      let node = defined_node u k.0 at k.1 in
      let is = node.1 in
      absurd cc
  by false e = refl

-- the number of a node that is a name of a type
pub local_there : (u : Unit) (k : ℕ) (at : NodeRef) → slice_get (defined u) k ≡ Some at → option_map (λ (n : TypeName). n.local) (type_name_at u at) ≡ Some (type_name u at).local
local_there u k at there =
    ap (λ (b : Bool). option_map (λ (n : TypeName). n.local) (if b then Some (type_name u at) else None)) (among_there at (defined u) k there)
