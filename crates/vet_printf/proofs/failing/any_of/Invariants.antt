use Rattle.std.proofs.Common.{◌≡◌, drop}
use Rattle.least.specs.Work.{set_of}
use Rattle.vet_printf.specs.InTable.{any_of}
use Rattle.vet_printf.proofs.failing.any_of.Given as goal

abbrev pub invariant-loop-id : goal.invariant-loop-id
invariant-loop-id l = any_of (set_of l.members) (drop l.id-index l.ids) ≡ any_of (set_of l.members) l.ids
