use Rattle.lock_types.specs.InTable.{AreFlagsTo}
use Rattle.lock_types.proofs.flags.all_flags.Given as goal

abbrev pub invariant-loop-i : goal.invariant-loop-i
invariant-loop-i l = AreFlagsTo l.t l.list l.i l.flags.items
