-- The tree over the slots.
use Rattle.std.specs.Prelude.{◌≡◌, ◌≢◌, ◌<◌, ◌≤◌, ◌+◌, ◌*◌, ◌/◌, ◌⊎◌, ℕ, zero, suc, List, length, slice_index_or}
use Rattle.fix_apply.specs.declared.slot.Slot.{Slot}
use Rattle.fix_apply.specs.declared.tree.Node.{Node}

abbrev pub slot_at : List Slot → ℕ → Slot
slot_at slots p = slice_index_or slots p (record { file = 0; start = 0; end = 0; fix = 0 })

abbrev pub node_at : List Node → ℕ → Node
node_at nodes x = slice_index_or nodes x (record { first_file = 0; last_file = 0; low = 0; high = 0; reach = 0 })

-- what bounds every slot
abbrev pub widest : Node
widest = record { first_file = 0; last_file = 4294967295; low = 0; high = 4294967295; reach = 4294967296 }

-- one node bounds what another bounds
pub record Bounds (node lower : Node) : Type 0 where
  pub first_file : node.first_file ≤ lower.first_file
  pub last_file : lower.last_file ≤ node.last_file
  pub low : node.low ≤ lower.low
  pub high : lower.high ≤ node.high
  pub reach : lower.reach ≤ node.reach

-- the node of one slot, which is open unless its reach is 0
pub record IsLeaf (node : Node) (slot : Slot) : Type 0 where
  pub first_file : node.first_file ≤ slot.file
  pub last_file : slot.file ≤ node.last_file
  pub low : node.low ≤ slot.start
  pub high : slot.start ≤ node.high
  pub reach : (node.reach ≡ 0) ⊎ (node.reach ≡ slot.end + 1)

-- each node bounds the two below it
abbrev pub IsOrdered : List Node → Type 0
IsOrdered nodes = (x : ℕ) → 1 ≤ x → ((2 * x < length nodes) → Bounds (node_at nodes x) (node_at nodes (2 * x))) × ((2 * x + 1 < length nodes) → Bounds (node_at nodes x) (node_at nodes (2 * x + 1)))

-- the tree over these slots
pub record IsTree (slots : List Slot) (nodes : List Node) : Type 0 where
  pub size : length nodes ≡ 2 * length slots
  pub ordered : IsOrdered nodes
  pub leaves : (p : ℕ) → p < length slots → IsLeaf (node_at nodes (length slots + p)) (slot_at slots p)

abbrev pub IsOpen : List Slot → List Node → ℕ → Type 0
IsOpen slots nodes p = 0 < (node_at nodes (length slots + p)).reach

-- the leaves stay
abbrev pub SameLeaves : List Slot → List Node → List Node → Type 0
SameLeaves slots old new = (p : ℕ) → p < length slots → node_at new (length slots + p) ≡ node_at old (length slots + p)

-- the leaves but one stay
abbrev pub OthersStay : List Slot → List Node → List Node → ℕ → Type 0
OthersStay slots old new p = (q : ℕ) → q < length slots → q ≢ p → node_at new (length slots + q) ≡ node_at old (length slots + q)

-- all slots are open
abbrev pub AllOpen : List Slot → List Node → Type 0
AllOpen slots nodes = (p : ℕ) → p < length slots → IsOpen slots nodes p

-- nodes that bound everything, and behind them the first leaves
pub record IsFlat (slots : List Slot) (nodes : List Node) (half count : ℕ) : Type 0 where
  pub size : length nodes ≡ half + count
  pub inner : (x : ℕ) → x < half → node_at nodes x ≡ widest
  pub leaves : (p : ℕ) → p < count → IsLeaf (node_at nodes (half + p)) (slot_at slots p)
  pub open_leaves : (p : ℕ) → p < count → 0 < (node_at nodes (half + p)).reach
  pub within : (p : ℕ) → p < count → Bounds widest (node_at nodes (half + p))

-- the slot is in the file, and overlaps the edit
pub record Meets (slot : Slot) (file start end : ℕ) : Type 0 where
  pub file_is : slot.file ≡ file
  pub overlap : (slot.start ≡ start) ⊎ ((slot.start < end) × (start < slot.end))

-- an open slot that meets
pub record Hits (slots : List Slot) (nodes : List Node) (p file start end : ℕ) : Type 0 where
  pub within : p < length slots
  pub is_open : IsOpen slots nodes p
  pub meets : Meets (slot_at slots p) file start end

-- the node that stands some levels above
abbrev pub above : ℕ → ℕ → ℕ
above zero x = x
above (suc levels) x = above levels x / 2

-- no slot below the node is hit
abbrev pub NoneBelow : List Slot → List Node → ℕ → ℕ → ℕ → ℕ → Type 0
NoneBelow slots nodes x file start end = (levels p : ℕ) → above levels (length slots + p) ≡ x → ¬ (Hits slots nodes p file start end)

-- no slot at all is hit
abbrev pub NoHit : List Slot → List Node → ℕ → ℕ → ℕ → Type 0
NoHit slots nodes file start end = (p : ℕ) → ¬ (Hits slots nodes p file start end)

-- what stands below the node may meet
pub record MayMeet (node : Node) (file start end : ℕ) : Type 0 where
  pub first : node.first_file ≤ file
  pub last : file ≤ node.last_file
  pub some : 0 < node.reach
  pub range : ((node.low ≤ start) × (start ≤ node.high)) ⊎ ((node.low < end) × (start + 1 < node.reach))
