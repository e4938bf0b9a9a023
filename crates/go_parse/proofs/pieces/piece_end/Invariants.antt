use Rattle.std.proofs.Common.{◌≡◌, ◌≤◌, ◌+◌, drop}
use Rattle.go_parse.specs.Reading.{first_size}
use Rattle.go_parse.proofs.pieces.piece_end.Given as goal

abbrev pub invariant-loop-at : goal.invariant-loop-at
invariant-loop-at l = record {
  low : l.depth ≤ l.at;
  size : l.fn.from + first_size 0 (drop l.fn.from l.classes) ≡ l.at + first_size l.depth (drop l.at l.classes);
}
