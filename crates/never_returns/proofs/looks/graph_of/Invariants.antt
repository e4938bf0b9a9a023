use Rattle.std.proofs.Common.{◌≡◌, take}
use Rattle.never_returns.proofs.looks.graph_of.Given as goal

abbrev pub invariant-loop-row : goal.invariant-loop-row
invariant-loop-row l = l.graph ≡ take l.row-index l.rows
