use Rattle.std.proofs.Common.{ℕ, List}
use Rattle.gv_base.specs.Files.{Entry}
use Rattle.tree_report.specs.Readings.{AreToldFrom}
use Rattle.tree_report.specs.Telling.{AreTold}
use Rattle.tree_report.proofs.readers.parts_told.Given as goal

abbrev pub invariant-loop-one : goal.invariant-loop-one
invariant-loop-one l = (tree : List Entry) → AreToldFrom tree 0 l.fn.told.items → (n : ℕ) × AreTold tree n l.heads.items l.refusals.items × AreToldFrom tree n l.one-iterator.rest.items
