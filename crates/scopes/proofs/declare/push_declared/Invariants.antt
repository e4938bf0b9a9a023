use Rattle.std.proofs.Common.{◌≡◌, ◌++◌, take}
use Rattle.scopes.specs.Regions.{declare}
use Rattle.scopes.proofs.declare.push_declared.Given as goal

abbrev pub invariant-loop-name : goal.invariant-loop-name
invariant-loop-name l = l.out.items ≡ l.fn.out.items ++ declare l.start l.block l.soft (take l.name-index l.names)
