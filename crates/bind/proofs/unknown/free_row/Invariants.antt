use Rattle.std.proofs.Common.{◌≡◌}
use Rattle.bind.specs.Undeclared.{end_of, reach, is_free, AreFlagged}
use Rattle.bind.proofs.unknown.free_row.Given as goal

abbrev pub invariant-loop-n : goal.invariant-loop-n
invariant-loop-n l = record { row : AreFlagged (is_free (end_of l.ends)) l.n l.row.items; reached : l.reached ≡ reach (end_of l.ends) l.n }
