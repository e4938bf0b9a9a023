use Rattle.std.proofs.Common.{List, [], ◌++◌, ap, ◌∙◌, arith}
use Rattle.analysis_core.specs.declared.diagnostic.Diagnostic.{Diagnostic}
use Rattle.std.specs.Option.{option_map_or}
use Rattle.package_objects.proofs.GatherLemmas.{gather_on, gather_all}
use Rattle.findings.specs.Passes.{unit_in}
use Rattle.vet_simple.specs.StructTags.{field_count, fault_at, nth_fault}
use Rattle.vet_simple.specs.TagSpots.{nth_told}
use Rattle.vet_simple.proofs.TagLemmas.{fault_is, gather_same}
use Rattle.vet_simple.proofs.struct_tags.report_names.Goals as goal

pub loop-j-preserved : goal.loop-j-preserved
loop-j-preserved c =
    gather_on (nth_told c.args.s.now.paths.now (unit_in c.args.p.now) c.args.file c.args.parts.now c.args.i c.args.n c.args.node.now c.args.t.now) c.loop-j.j c.args.found.now.items c.loop-j.found.items
    c.report_name.new.found.items c.loop-j.invariant c.in_ok-report_name.ensures

pub returns : goal.returns
returns c = λ told.
    let u = unit_in c.args.p.now in
    let paths = c.args.s.now.paths.now in
    gather_all (nth_told paths u c.args.file c.args.parts.now c.args.i c.args.n c.args.node.now c.args.t.now) c.loop-j.j (field_count u c.args.file c.args.node.now) c.args.found.now.items c.loop-j.found.items
    (omega arith) (omega arith) c.loop-j.invariant
    ∙ ap (λ (l : List Diagnostic). c.args.found.now.items ++ l)
    (gather_same (nth_told paths u c.args.file c.args.parts.now c.args.i c.args.n c.args.node.now c.args.t.now) (nth_fault paths u c.args.file c.args.parts.now c.args.i c.args.n c.args.node.now)
    (λ j. ap (λ o. option_map_or (fault_at u c.args.file c.args.n) o []) (fault_is paths u c.args.file c.args.parts.now c.args.i j c.args.node.now c.args.t.now told c.requires.stands)) (field_count u c.args.file c.args.node.now))
