use Rattle.std.proofs.Common.{◌≡◌, drop}
use Rattle.lock_types.specs.InTable.{any_lock}
use Rattle.lock_types.proofs.flags.any_lock.Given as goal

abbrev pub invariant-loop-id : goal.invariant-loop-id
invariant-loop-id l = any_lock l.flags (drop l.id-index l.ids) ≡ any_lock l.flags l.ids
