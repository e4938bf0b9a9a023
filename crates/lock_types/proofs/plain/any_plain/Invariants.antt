use Rattle.std.proofs.Common.{◌≡◌, drop}
use Rattle.lock_types.specs.InTable.{any_plain}
use Rattle.lock_types.proofs.plain.any_plain.Given as goal

abbrev pub invariant-loop-m : goal.invariant-loop-m
invariant-loop-m l = any_plain l.name (drop l.m-index l.methods) ≡ any_plain l.name l.methods
