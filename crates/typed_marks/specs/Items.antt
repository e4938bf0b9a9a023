-- Items by number.
use Rattle.std.specs.Prelude.{◌≡◌, ◌<◌, ◌≤◌, ◌+◌, ◌*◌, ◌-◌, ◌==◌, ℕ, ◌&&◌, Bool, true, false, nat_le, nat_lt, length, List, Option, Some, None, slice_get}
use Rattle.std.specs.Option.{option_map_or}
use Rattle.typed_marks.specs.declared.item.Stage.{Stage}
use Rattle.typed_marks.specs.declared.item.Stage.TheVariants as s
use Rattle.typed_marks.specs.declared.item.Item.{Item}
use Rattle.typed_marks.specs.declared.item.Block.{Block}

-- the node is one of the block's
abbrev pub is_in : ℕ → Block → Bool
is_in n b = nat_le b.low n && nat_lt n b.end

-- there is such a node
abbrev pub is_item : List Block → Item → Bool
is_item blocks i = option_map_or (is_in i.node) (slice_get blocks i.block) false

abbrev pub IsItem : List Block → Item → Type 0
IsItem blocks i = is_item blocks i ≡ true

abbrev pub stage_number : Stage → ℕ
stage_number s.Before = 0
stage_number s.Wanted = 1
stage_number s.Judged = 2
stage_number s.Placed = 3
stage_number s.Object = 4
stage_number s.Under = 5

-- six items a node, node by node
abbrev pub number_in : Stage → ℕ → Block → ℕ
number_in stage n b = b.start + 6 * (n - b.low) + stage_number stage

abbrev pub number_of : List Block → Item → ℕ
number_of blocks i = option_map_or (number_in i.stage i.node) (slice_get blocks i.block) 0

-- behind the last block: it is no item, and never marked, so that what waits for it waits for ever
abbrev pub nowhere : List Block → Item
nowhere blocks = record { stage = s.Under; block = length blocks; node = 0 }

abbrev pub is_under : Stage → Bool
is_under s.Before = false
is_under s.Wanted = false
is_under s.Judged = false
is_under s.Placed = false
is_under s.Object = false
is_under s.Under = true

abbrev pub is_nowhere : List Block → Item → Bool
is_nowhere blocks i = is_under i.stage && (i.block == length blocks && i.node == 0)

-- the items of blocks have the numbers below the count, each its own
pub record AreBlocks (blocks : List Block) (count : ℕ) : Type 0 where
  pub within : (k : ℕ) (b : Block) → slice_get blocks k ≡ Some b → b.start + 6 * (b.end - b.low) ≤ count
  pub apart : (j k : ℕ) (a b : Block) → j < k → slice_get blocks j ≡ Some a → slice_get blocks k ≡ Some b → a.start + 6 * (a.end - a.low) ≤ b.start
