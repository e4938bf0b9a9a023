use Rattle.std.proofs.Common.{◌≡◌, map}
use Rattle.package_objects.specs.Declares.{gather}
use Rattle.findings.specs.Passes.{unit_in}
use Rattle.own_functions.specs.Functions.{functions_in}
use Rattle.own_functions.specs.InCode.{named_in}
use Rattle.own_functions.proofs.functions.functions_of.Given as goal

abbrev pub invariant-loop-file : goal.invariant-loop-file
invariant-loop-file l = map named_in l.found.items ≡ gather (functions_in (unit_in l.p)) l.file
