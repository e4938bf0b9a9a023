-- Field keys (Go 1.17, "Composite literals"): a key in a literal of a struct type is a field's name, in other literals an expression. Within a
-- literal of an array, slice or map type, elements and keys that are literals may leave out their type, and the & of a pointer to it.
-- Which types of other packages are structs is said from outside: of the nodes at which a type ends, those that name one are flagged.
use Rattle.std.specs.Prelude.{◌≡◌, ◌↔◌, ◌⊎◌, ◌≤◌, ℕ, zero, suc, ◌==◌, ◌&&◌, ◌||◌, ltb, nat_eq, Bool, true, false, if◌then◌else◌, List, length, Option, Some, None, slice_get, slice_index_or, unwrap_or, option_map, option_and_then}
use Rattle.std.specs.List.{list_any}
use Rattle.std.specs.Option.{option_map_or}
use Rattle.std.specs.Global.{Vec}
use Rattle.go_tree.specs.declared.tree.FileTree.{FileTree}
use Rattle.go_tree.specs.declared.tree.Node.{Node}
use Rattle.go_tree.specs.declared.tree.NodeKind.{NodeKind}
use Rattle.go_tree.specs.declared.tree.NodeKind.TheVariants as k
use Rattle.go_tree.specs.declared.tree.NodeRef.{NodeRef}
use Rattle.object_order.specs.Spots.{World, place}
use Rattle.package_needs.specs.declared.literal.Held.{Held}
use Rattle.package_needs.specs.Follow.{kind_at, part_in, Ends, IsEnd}
use Rattle.package_needs.specs.Kin.{is_star}
use Rattle.package_needs.specs.Links.{cell}

-- ---- the node above

-- the node is a part of the one of this number, and comes before it
abbrev pub is_part_of : List Node → ℕ → ℕ → Bool
is_part_of nodes n p = ltb p n && option_map_or (λ (node : Node). list_any (λ q. nat_eq q p) node.parts) (slice_get nodes n) false

-- of the first few nodes the last one of which it is a part: in a tree there is one at most
abbrev pub above_in : List Node → ℕ → ℕ → Option ℕ
above_in nodes zero p = None
above_in nodes (suc n) p = if is_part_of nodes n p then Some n else above_in nodes n p

abbrev pub above : List FileTree → ℕ → ℕ → Option ℕ
above trees file p = option_and_then (λ (tree : FileTree). above_in tree.nodes (length tree.nodes) p) (slice_get trees file)

-- the node of which this one is a part
abbrev pub up : List FileTree → NodeRef → Option NodeRef
up trees at = option_map (λ n. place at.file n) (above trees at.file at.node)

-- ---- kinds

abbrev pub is_value : NodeKind → Bool
is_value k.Value = true
is_value _ = false

abbrev pub is_composite : NodeKind → Bool
is_composite k.Composite = true
is_composite _ = false

abbrev pub is_struct : NodeKind → Bool
is_struct k.StructType = true
is_struct _ = false

-- what a table of flags, a row for each file, has for a node
abbrev pub flagged : List (Vec Bool) → NodeRef → Bool
flagged rows at = option_map_or (λ (row : Vec Bool). slice_index_or row.items at.node false) (slice_get rows at.file) false

-- a type ends here at a struct: one that is written, or one that another package declares
abbrev pub is_struct_at : World → (NodeRef → Bool) → NodeRef → Bool
is_struct_at w elsewhere at = is_struct (kind_at w at) || elsewhere at

-- ---- literals

-- the part at this place is that node
abbrev pub is_part_at : World → ℕ → NodeRef → NodeRef → Bool
is_part_at w i at part = option_map_or (λ (p : NodeRef). p.node == part.node) (part_in w i at) false

-- the node is an element of these braces, or what stands before or after a colon there
abbrev pub held_in : World → (NodeRef → Option NodeRef) → NodeRef → NodeKind → NodeRef → Option Held
held_in w up at k.Value p = Some (record { braces = p; key = false })
held_in w up at k.KeyValue p = option_and_then (λ (v : NodeRef). if is_value (kind_at w v) then Some (record { braces = v; key = is_part_at w 0 p at }) else None) (up p)
held_in w up at _ p = None

abbrev pub held : World → (NodeRef → Option NodeRef) → NodeRef → Option Held
held w up at = option_and_then (λ (p : NodeRef). held_in w up at (kind_at w p) p) (up at)

-- the type that is written before the braces
abbrev pub written_in : World → NodeRef → NodeRef → Option NodeRef
written_in w at p = if is_composite (kind_at w p) && is_part_at w 1 p at then part_in w 0 p else None

abbrev pub written : World → (NodeRef → Option NodeRef) → NodeRef → Option NodeRef
written w up at = option_and_then (written_in w at) (up at)

-- which part of a type is the type of the elements, or of the keys
abbrev pub inner_place : Bool → NodeKind → Option ℕ
inner_place true k.MapType = Some 0
inner_place false k.MapType = Some 1
inner_place false k.ArrayType = Some 1
inner_place false k.SliceType = Some 0
inner_place false k.DotsType = Some 0
inner_place _ _ = None

abbrev pub inner_of : World → Bool → NodeRef → Option NodeRef
inner_of w key e = option_and_then (λ i. part_in w i e) (inner_place key (kind_at w e))

-- the type of a literal for a type that ends there: of a pointer what it points to
abbrev pub elided : World → NodeRef → Option NodeRef → NodeRef
elided w t o = option_map_or (λ e. if is_star (kind_at w e) then unwrap_or (part_in w 0 e) t else t) o t

-- a literal among the elements or keys of a literal of the type has that type, where it leaves its own out
pub record IsInner (w : World) (key : Bool) (of t : NodeRef) : Type 0 where
  pub end : NodeRef
  pub part : NodeRef
  pub last : Option NodeRef
  pub ends : Ends w true of end
  pub has : inner_of w key end ≡ Some part
  pub leads : IsEnd w true part last
  pub «is» : elided w part last ≡ t

-- the braces are those of a literal of the type
pub data Literal (w : World) (up : NodeRef → Option NodeRef) : NodeRef → NodeRef → Type 0 where
  own : {at t : NodeRef} → written w up at ≡ Some t → Literal w up at t
  inner : {at of t : NodeRef} (h : Held) → written w up at ≡ None → held w up at ≡ Some h → Literal w up h.braces of → IsInner w h.key of t → Literal w up at t

-- the node stands before a colon in a literal of a struct type
pub record IsKey (w : World) (elsewhere : NodeRef → Bool) (up : NodeRef → Option NodeRef) (at : NodeRef) : Type 0 where
  pub held_by : Held
  pub of : NodeRef
  pub end : NodeRef
  pub «is» : held w up at ≡ Some held_by
  pub key : held_by.key ≡ true
  pub literal : Literal w up held_by.braces of
  pub ends : Ends w true of end
  pub struct : is_struct_at w elsewhere end ≡ true

-- a key mentions nothing, another node what it denotes
abbrev pub IsMentioned : World → (NodeRef → Bool) → (NodeRef → Option NodeRef) → NodeRef → Option NodeRef → Type 0
IsMentioned w elsewhere up at o = (IsKey w elsewhere up at × (o ≡ None)) ⊎ ((IsKey w elsewhere up at → ⊥) × (o ≡ w.meant at))

-- what each node mentions
pub record AreMentions (w : World) (elsewhere : NodeRef → Bool) (up : NodeRef → Option NodeRef) (meant : NodeRef → Option NodeRef) : Type 0 where
  pub node : (at : NodeRef) (n : Node) → w.node at ≡ Some n → IsMentioned w elsewhere up at (meant at)
  pub outside : (at : NodeRef) → w.node at ≡ None → meant at ≡ None

-- ---- what the code says

abbrev pub IsInnerOf : World → Bool → NodeRef → Option NodeRef → Type 0
IsInnerOf w key of o = (t : NodeRef) → (o ≡ Some t) ↔ IsInner w key of t

abbrev pub IsLiteral : World → (NodeRef → Option NodeRef) → NodeRef → Option NodeRef → Type 0
IsLiteral w up at o = (t : NodeRef) → (o ≡ Some t) ↔ Literal w up at t

-- the types of the literals at the nodes from this one on
abbrev pub AreLiterals : World → (NodeRef → Option NodeRef) → ℕ → List (Option NodeRef) → ℕ → Type 0
AreLiterals w up file types from = (n : ℕ) → from ≤ n → IsLiteral w up (place file n) (cell types n)

abbrev pub number_at : List (Option ℕ) → ℕ → Option ℕ
number_at table p = option_and_then (λ (o : Option ℕ). o) (slice_get table p)

-- the node above each node of a file
abbrev pub AreAbove : List FileTree → ℕ → List (Option ℕ) → Type 0
AreAbove trees file table = (p : ℕ) → number_at table p ≡ above trees file p

-- those that pass are noted under this number
pub record Marks (old new : List (Option ℕ)) (n : ℕ) (passes : ℕ → Bool) : Type 0 where
  pub size : length new ≡ length old
  pub each : (p : ℕ) → number_at new p ≡ (if passes p then Some n else number_at old p)

-- a cell for each of the first few nodes of a file, with what is said of it
pub record IsRowBy (says : NodeRef → Option NodeRef → Type 0) (file : ℕ) (row : List (Option NodeRef)) (end : ℕ) : Type 0 where
  pub size : length row ≡ end
  pub each : (n : ℕ) (o : Option NodeRef) → slice_get row n ≡ Some o → says (place file n) o

-- what the first few nodes of a file mention
abbrev pub IsMentionRow : World → (NodeRef → Bool) → (NodeRef → Option NodeRef) → ℕ → List (Option NodeRef) → ℕ → Type 0
IsMentionRow w elsewhere up file row end = IsRowBy (IsMentioned w elsewhere up) file row end
