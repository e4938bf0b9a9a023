use Rattle.std.proofs.Common.{◌≡◌, ◌++◌}
use Rattle.package_objects.specs.Declares.{gather}
use Rattle.findings.specs.Passes.{unit_in}
use Rattle.vet_simple.specs.TagSpots.{nth_told}
use Rattle.vet_simple.proofs.struct_tags.report_names.Given as goal

abbrev pub invariant-loop-j : goal.invariant-loop-j
invariant-loop-j l = l.found.items ≡ l.fn.found.items ++ gather (nth_told l.s.paths.now (unit_in l.p) l.file l.parts l.i l.n l.node l.t) l.j
