use Rattle.std.proofs.Common.{◌≡◌, ◌++◌, map}
use Rattle.package_objects.specs.Declares.{gather}
use Rattle.findings.specs.Passes.{unit_in}
use Rattle.own_functions.specs.Functions.{function_at}
use Rattle.own_functions.specs.InCode.{named_in}
use Rattle.own_functions.proofs.functions.push_file.Given as goal

abbrev pub invariant-loop-n : goal.invariant-loop-n
invariant-loop-n l = map named_in l.found.items ≡ map named_in l.fn.found.items ++ gather (function_at (unit_in l.p) l.file) l.n
