use Rattle.std.proofs.Common.{◌≡◌, ◌++◌}
use Rattle.package_objects.specs.Declares.{gather}
use Rattle.findings.specs.Passes.{unit_in}
use Rattle.vet_simple.specs.StructTags.{part_faults}
use Rattle.vet_simple.specs.TagSpots.{AreMet}
use Rattle.vet_simple.proofs.struct_tags.report_parts.Given as goal

abbrev pub invariant-loop-i : goal.invariant-loop-i
invariant-loop-i l =
    (l.found.items ≡ l.fn.found.items ++ gather (part_faults l.s.paths.now (unit_in l.p) l.file l.parts) l.i) × AreMet (unit_in l.p) l.file l.parts l.i l.json_met l.xml_met
