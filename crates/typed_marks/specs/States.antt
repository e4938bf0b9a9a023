-- The marks so far.
use Rattle.std.specs.Prelude.{◌≡◌, ℕ, ◌+◌, ◌-◌, ◌*◌, List, [], ◌∷◌, length, ◌++◌, Option, Some, None, option_map, option_and_then, slice_get, if◌then◌else◌}
use Rattle.gv_base.specs.declared.constant.Const.{Const}
use Rattle.type_model.specs.declared.table.TypeTable.{TypeTable}
use Rattle.type_model.specs.declared.term.TypeName.{TypeName}
use Rattle.type_model.specs.Tables.{IsTable, Extends, declarations_in, terms_in}
use Rattle.mark_walk.specs.Asks.{Stays}
use Rattle.typed_marks.specs.declared.item.Span.{Span}
use Rattle.typed_marks.specs.declared.item.Item.{Item}
use Rattle.typed_marks.specs.declared.item.Block.{Block}
use Rattle.typed_marks.specs.declared.mark.Mark.{Mark}
use Rattle.typed_marks.specs.declared.mark.Mark.TheVariants.{Silent}
use Rattle.typed_marks.specs.declared.state.State.{State}
use Rattle.typed_marks.specs.Cells.{cell}
use Rattle.typed_marks.specs.Items.{is_item, is_nowhere, number_of, AreBlocks}
use Rattle.typed_marks.specs.Meanings.{Meaning, mark_in, IsMarkIn}

-- nothing is said of what is no item; but what is nowhere has no mark
abbrev pub left_out : List Block → Item → Option Mark
left_out blocks i = if is_nowhere blocks i then None else Some Silent

-- the mark that is kept of an item
abbrev pub kept : List Block → List (Option Mark) → Item → Option Mark
kept blocks cells i = if is_item blocks i then cell cells (number_of blocks i) else left_out blocks i

-- what the marks so far say over tables
abbrev pub said_over : TypeTable → List Const → List Block → List (Option Mark) → Item → Option Meaning
said_over t constants blocks cells i = option_map (mark_in t constants) (kept blocks cells i)

-- what the marks so far say
unfoldable pub so_far : State → Item → Option Meaning
so_far s i = said_over s.table s.constants.items s.blocks.items s.cells.items i

-- Blocks, and cells for their items; each mark is over the tables.
pub record IsState (s : State) : Type 0 where
  pub table : IsTable s.table
  pub blocks : AreBlocks s.blocks.items (length s.cells.items)
  pub over : (n : ℕ) (mark : Mark) → cell s.cells.items n ≡ Some mark → IsMarkIn s.table s.constants.items mark

-- ---- building

abbrev pub block_of : Span → ℕ → Block
block_of span start = record { low = span.low; end = span.end; start = start }

-- how many items the nodes of these spans have
abbrev pub room : List Span → ℕ
room [] = 0
room (span ∷ spans) = 6 * (span.end - span.low) + room spans

-- blocks of these spans, one after the other from a number on
abbrev pub laid : ℕ → List Span → List Block
laid start [] = []
laid start (span ∷ spans) = block_of span start ∷ laid (start + 6 * (span.end - span.low)) spans

-- ---- growing

-- The tables may have more, with the same declarations; the marks are the same and say the same.
pub record HasGrown (old new : State) : Type 0 where
  pub state : IsState new
  pub stays : Stays (so_far old) (so_far new)
  pub blocks : new.blocks ≡ old.blocks
  pub extends : Extends (terms_in old.table) (terms_in new.table)
  pub declarations : (name : TypeName) → declarations_in new.table name ≡ declarations_in old.table name
  pub constants : (more : List Const) × (new.constants.items ≡ old.constants.items ++ more)
