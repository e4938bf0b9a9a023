-- Where the search for needs goes on from each spot.
use Rattle.std.specs.Prelude.{ℕ, ◌==◌, ◌&&◌, ◌++◌, Bool, true, false, if◌then◌else◌, List, [], ◌∷◌, map, Option, slice_index_or}
use Rattle.std.specs.List.{flat_map}
use Rattle.std.specs.Option.{option_map_or}
use Rattle.go_tree.specs.declared.tree.Node.{Node}
use Rattle.go_tree.specs.declared.tree.NodeRef.{NodeRef}
use Rattle.go_tree.specs.declared.tree.NodeKind.{NodeKind}
use Rattle.go_tree.specs.declared.tree.NodeKind.TheVariants as k
use Rattle.object_order.specs.declared.spot.Mode.{Mode}
use Rattle.object_order.specs.declared.spot.Mode.TheVariants as m
use Rattle.object_order.specs.declared.spot.Form.{Form}
use Rattle.object_order.specs.declared.spot.Form.TheVariants as f
use Rattle.object_order.specs.declared.spot.Role.{Role}
use Rattle.object_order.specs.declared.spot.Role.TheVariants as r
use Rattle.object_order.specs.declared.spot.Root.{Root}
use Rattle.object_order.specs.declared.spot.Entry.{Entry}
use Rattle.object_order.specs.declared.spot.Spot.{Spot}

-- What is known of a package's nodes: each node, the object that it mentions, and the declaration of a name.
pub record World : Type 0 where
  pub node : NodeRef → Option Node
  pub meant : NodeRef → Option NodeRef
  pub entry : NodeRef → Option Entry
  -- the methods and aliases whose declarations name this type as theirs
  pub kin : NodeRef → List NodeRef

abbrev pub place : ℕ → ℕ → NodeRef
place file node = record { file = file; node = node }

abbrev pub spot : Mode → NodeRef → Spot
spot mode at = record { mode = mode; at = at }

abbrev pub spots : List Mode → NodeRef → List Spot
spots modes at = map (λ mode. spot mode at) modes

abbrev pub is_block : NodeKind → Bool
is_block k.Block = true
is_block _ = false

abbrev pub is_array : NodeKind → Bool
is_array k.ArrayType = true
is_array _ = false

abbrev pub is_interface : NodeKind → Bool
is_interface k.InterfaceType = true
is_interface _ = false

abbrev pub is_name : NodeKind → Bool
is_name k.Name = true
is_name _ = false

abbrev pub is_paren : NodeKind → Bool
is_paren k.Paren = true
is_paren _ = false

-- What a type has in parts of such a node it still has directly: nothing stands under a pointer, slice, map, channel, function or interface method.
abbrev pub is_plain : NodeKind → Bool
is_plain k.Paren = true
is_plain k.Selector = true
is_plain k.ArrayType = true
is_plain k.StructType = true
is_plain k.Field = true
is_plain k.Embedded = true
is_plain k.InterfaceType = true
is_plain _ = false

-- what is looked for in a part of such a node, where the part is no body
abbrev pub below : Mode → NodeKind → Bool → NodeKind → List Mode
below m.Direct kind first part = if is_plain kind then m.Direct ∷ [] else []
below m.Lengths kind first part = if is_array kind && first then m.Whole ∷ [] else m.Lengths ∷ []
below m.Whole _ _ _ = m.Whole ∷ []
below m.Aliases _ _ _ = m.Aliases ∷ []
below m.AliasSteps _ _ _ = m.AliasSteps ∷ []
below m.Embeds kind first part = if is_interface kind && is_name part then m.Alone ∷ m.Embeds ∷ [] else m.Embeds ∷ []
below m.Alone kind first part = if is_paren kind then m.Alone ∷ [] else []
below _ _ _ _ = []

-- The search goes into no body: what it looks for in a part of a node of a kind, which may be its first part.
abbrev pub descends : Mode → NodeKind → Bool → NodeKind → List Mode
descends mode kind first part = if is_block part then [] else below mode kind first part

-- what is looked for at an object that is mentioned
abbrev pub crosses : Mode → Form → List Mode
crosses m.Direct form = m.Needs ∷ []
crosses m.Whole form = m.Needs ∷ m.Reach ∷ []
crosses m.Aliases f.Alias = m.Needs ∷ []
crosses m.AliasSteps f.Alias = m.Steps ∷ []
crosses m.Alone f.Alias = m.Follow ∷ []
crosses m.Alone f.Defined = m.Steps ∷ []
crosses _ form = []

-- what is looked for in a type of an alias, of a type of its own, or of another declaration
abbrev pub types : Mode → Form → List Mode
types m.Needs f.Alias = m.Direct ∷ m.Lengths ∷ m.Aliases ∷ []
types m.Needs form = m.Direct ∷ m.Lengths ∷ []
types m.Reach form = m.Whole ∷ []
types m.Steps f.Alias = m.AliasSteps ∷ m.Embeds ∷ []
types m.Steps f.Defined = m.AliasSteps ∷ m.Embeds ∷ m.Alone ∷ []
types m.Follow f.Alias = m.Alone ∷ []
types _ form = []

-- what is looked for in an expression on which nothing rests
abbrev pub besides : Mode → List Mode
besides m.Needs = m.Lengths ∷ []
besides m.Reach = m.Whole ∷ []
besides _ = []

-- what is looked for in an expression on which a type or value rests
abbrev pub restings : Mode → List Mode
restings m.Needs = m.Whole ∷ []
restings m.Reach = m.Whole ∷ []
restings _ = []

-- what is looked for in a node of a declaration
abbrev pub enters : Mode → Form → Role → List Mode
enters mode form r.Typing = types mode form
enters mode form r.Beside = besides mode
enters mode form r.Resting = restings mode

abbrev pub first_part : Node → ℕ
first_part node = slice_index_or node.parts 0 0

-- into one part of a node
abbrev pub down : World → Spot → Node → ℕ → List Spot
down w s node part =
    option_map_or (λ (n : Node). spots (descends s.mode node.kind (part == first_part node) n.kind) (place s.at.file part)) (w.node (place s.at.file part)) []

-- into the parts of the node
abbrev pub into : World → Spot → List Spot
into w s = option_map_or (λ (node : Node). flat_map (down w s node) node.parts) (w.node s.at) []

-- to the object that the node mentions
abbrev pub across : World → Spot → List Spot
across w s =
    option_map_or (λ (u : NodeRef). option_map_or (λ (e : Entry). spots (crosses s.mode e.form) u) (w.entry u) []) (w.meant s.at) []

-- into one node of the declaration
abbrev pub from_root : Spot → Form → Root → List Spot
from_root s form root = spots (enters s.mode form root.role) (place s.at.file root.node)

-- into the declaration of the object
abbrev pub under : World → Spot → List Spot
under w s = option_map_or (λ (e : Entry). flat_map (from_root s e.form) e.roots) (w.entry s.at) []

-- What is looked for at a method of a type, or at another name for it: in reaching, a type reaches what the signatures of its methods mention.
abbrev pub joins : Mode → Form → List Mode
joins m.Reach f.Alias = m.Kin ∷ []
joins m.Reach f.Other = m.Reach ∷ []
joins m.Kin f.Alias = m.Kin ∷ []
joins m.Kin f.Other = m.Reach ∷ []
joins _ form = []

abbrev pub to_kin : World → Mode → NodeRef → List Spot
to_kin w mode u = option_map_or (λ (e : Entry). spots (joins mode e.form) u) (w.entry u) []

-- to the methods of a type
abbrev pub beside : World → Spot → List Spot
beside w s = flat_map (to_kin w s.mode) (w.kin s.at)

-- Where the search goes on from a spot.
abbrev pub moves : World → Spot → List Spot
moves w s = into w s ++ across w s ++ under w s ++ beside w s
