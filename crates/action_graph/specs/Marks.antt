-- The marks text: the spelling of each value, apart from writer and reader, and what the parts of the
-- reader answer.
use Rattle.std.specs.Prelude.{◌≡◌, ℕ, ◌<◌, ◌-◌, ◌^◌, Bool, true, false, List, ◌++◌, length, Option, Some, None, ◌==◌, if◌then◌else◌}
use Rattle.gv_bytes.specs.Spelling.{natural, items, AreItems}
use Rattle.gv_bytes.specs.Reading.{◌>>=◌, natural_at, items_at}
use Rattle.action_graph.specs.declared.marks.MarkLine.{MarkLine}

-- 0 for a rule, 1 for a limit
abbrev pub limit_number : Bool → ℕ
limit_number true = 1
limit_number false = 0

-- A mark: its file, its offset, 0 for a rule or 1 for a limit, and the number.
unfoldable pub mark : MarkLine → List ℕ
mark m = natural m.at.file ++ natural m.at.offset ++ natural (limit_number m.limit) ++ natural m.number

-- the marks of this size
pub record IsMark (m : MarkLine) : Type 0 where
  pub file : m.at.file < 2 ^ 32
  pub offset : m.at.offset < 2 ^ 32
  pub number : m.number < 256

-- The bytes are the spelling of the list: its count, and its marks in turn.
pub record AreSpelled (marks : List MarkLine) (bytes : List ℕ) : Type 0 where
  pub value : AreItems IsMark marks
  pub whole : bytes ≡ items mark marks

unfoldable pub mark_at : List ℕ → Option (MarkLine × List ℕ)
mark_at bytes = do
  file ← natural_at (2 ^ 32 - 1) bytes
  offset ← natural_at (2 ^ 32 - 1) file.1
  limit ← natural_at 1 offset.1
  number ← natural_at 255 limit.1
  Some (record { at = record { file = file.0; offset = offset.0 }; limit = limit.0 == 1; number = number.0 }, number.1)

-- all of the bytes
unfoldable pub marks_of : List ℕ → Option (List MarkLine)
marks_of bytes = do
  marks ← items_at mark_at bytes
  if length marks.1 == 0 then Some marks.0 else None
