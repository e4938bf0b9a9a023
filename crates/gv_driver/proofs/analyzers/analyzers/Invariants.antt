use Rattle.std.proofs.Common.{◌≡◌}
use Rattle.gv_driver.specs.Analyzers.{first_analyzers}
use Rattle.gv_driver.proofs.analyzers.analyzers.Given as goal

abbrev pub invariant-loop-before : goal.invariant-loop-before
invariant-loop-before l = l.list.items ≡ first_analyzers l.only l.stub l.before
