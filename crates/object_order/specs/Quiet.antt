-- Nodes that mention no declared name, and hold none: a search may leave them out.
use Rattle.std.specs.Prelude.{◌≡◌, ℕ, Bool, true, false, if◌then◌else◌, List, Option, Some, None, slice_get}
use Rattle.std.specs.Global.{Vec}
use Rattle.std.specs.List.{list_all}
use Rattle.std.specs.Option.{option_map_or}
use Rattle.go_tree.specs.Spells.{Among}
use Rattle.go_tree.specs.declared.tree.Node.{Node}
use Rattle.go_tree.specs.declared.tree.NodeKind.{NodeKind}
use Rattle.go_tree.specs.declared.tree.NodeRef.{NodeRef}
use Rattle.object_order.specs.Picks.{flag_in}
use Rattle.object_order.specs.Spots.{place, is_block}

-- whether a node is left aside: a body, unless bodies are looked into
abbrev pub is_aside : Bool → NodeKind → Bool
is_aside bodies kind = if bodies then false else is_block kind

-- Where nodes are these and mention these, a quiet node mentions nothing, and each of its parts is quiet, or left aside.
pub record IsQuiet (bodies : Bool) (node_at : NodeRef → Option Node) (meant : NodeRef → Option NodeRef) (quiet : NodeRef → Bool) (at : NodeRef) : Type 0 where
  pub mentions : meant at ≡ None
  pub parts : (node inner : Node) (part : ℕ) → node_at at ≡ Some node → Among part node.parts → node_at (place at.file part) ≡ Some inner → is_aside bodies inner.kind ≡ false
      → quiet (place at.file part) ≡ true

-- What is flagged is quiet.
abbrev pub AreQuiet : Bool → (NodeRef → Option Node) → (NodeRef → Option NodeRef) → (NodeRef → Bool) → Type 0
AreQuiet bodies node_at meant quiet = (at : NodeRef) → quiet at ≡ true → IsQuiet bodies node_at meant quiet at

-- ---- in code: a row of flags for each file

abbrev pub quiet_at : List (Vec Bool) → NodeRef → Bool
quiet_at rows at = option_map_or (λ (row : Vec Bool). flag_in row.items at.node) (slice_get rows at.file) false

abbrev pub is_aside_at : Bool → Option Node → Bool
is_aside_at bodies o = option_map_or (λ (node : Node). is_aside bodies node.kind) o false

-- the part is flagged, or left aside
abbrev pub passed : Bool → List Node → List Bool → ℕ → Bool
passed bodies nodes flags part = if flag_in flags part then true else is_aside_at bodies (slice_get nodes part)

abbrev pub quiet_here : Bool → List Node → List Bool → Option NodeRef → Node → Bool
quiet_here bodies nodes flags meant node = option_map_or (λ (u : NodeRef). false) meant (list_all (passed bodies nodes flags) node.parts)

-- what is flagged of a file is a node that is quiet by the flags of the file
abbrev pub IsQuietRow : Bool → (NodeRef → Option NodeRef) → ℕ → List Node → List Bool → Type 0
IsQuietRow bodies meant file nodes flags =
    (n : ℕ) → flag_in flags n ≡ true → (node : Node) × (slice_get nodes n ≡ Some node) × (quiet_here bodies nodes flags (meant (place file n)) node ≡ true)
