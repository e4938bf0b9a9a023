use Rattle.std.proofs.Common.{take}
use Rattle.bind.specs.Tables.{found, path_of, pairs, IsEarliest}
use Rattle.bind.proofs.table.earliest.Given as goal

abbrev pub invariant-loop-declared : goal.invariant-loop-declared
invariant-loop-declared l = IsEarliest (path_of l.files) (pairs (take l.declared-index l.all)) (found l.table)
