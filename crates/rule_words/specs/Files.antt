-- The files of blocks.
use Rattle.std.specs.Prelude.{ℕ}
use Rattle.std.specs.Option.{option_map_or}
use Rattle.unit_read.specs.Units.{Unit, passage_at}
use Rattle.unit_read.specs.declared.passage.Passage.{Passage}

-- the file of a block
abbrev pub file_of : Unit → ℕ → ℕ
file_of u block = option_map_or (λ (p : Passage). p.file) (passage_at u block) 0
