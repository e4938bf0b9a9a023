use Rattle.std.proofs.Common.{◌≡◌, take}
use Rattle.check_pkg.specs.ImportLists.{named_in}
use Rattle.check_pkg.proofs.sources.known.Given as goal

abbrev pub invariant-loop-interface : goal.invariant-loop-interface
invariant-loop-interface l = l.list.items ≡ named_in (take l.interface-index l.env)
