use Rattle.std.proofs.Common.{◌≡◌, length, take}
use Rattle.typed_marks.specs.Items.{AreBlocks}
use Rattle.typed_marks.specs.Cells.{AllNone}
use Rattle.typed_marks.specs.States.{laid, room}
use Rattle.typed_marks.proofs.state.State.new.Given as goal

abbrev pub invariant-loop-k : goal.invariant-loop-k
invariant-loop-k l = record {
  blocks : AreBlocks l.blocks.items (length l.cells.items);
  laid : l.blocks.items ≡ laid 0 (take l.k l.spans);
  room : length l.cells.items ≡ room (take l.k l.spans);
  none : AllNone l.cells.items;
}
