use Rattle.std.proofs.Common.{List, length, append-nil, sym, ap, ◌∙◌, arith}
use Rattle.package_objects.proofs.GatherLemmas.{gather_on, gather_all}
use Rattle.findings.specs.Passes.{unit_in}
use Rattle.vet_simple.specs.StructTags.{part_faults}
use Rattle.vet_simple.proofs.RunLemmas.{kept_none}
use Rattle.vet_simple.proofs.struct_tags.report_parts.Goals as goal

pub loop-i-init : goal.loop-i-init
loop-i-init c = (sym (append-nil c.args.found.now.items), (kept_none c.new-json_met.result c.new-json_met.ensures.empty, kept_none c.new-xml_met.result c.new-xml_met.ensures.empty))

pub loop-i-preserved : goal.loop-i-preserved
loop-i-preserved c = (
  gather_on (part_faults c.args.s.now.paths.now (unit_in c.args.p.now) c.args.file c.args.parts.now) c.loop-i.i c.args.found.now.items c.loop-i.found.items c.report_part.new.found.items c.loop-i.invariant.0
      (c.in_ok-report_part.ensures.found c.loop-i.invariant.1),
  c.in_ok-report_part.ensures.met c.loop-i.invariant.1,
)

pub returns : goal.returns
returns c =
    gather_all (part_faults c.args.s.now.paths.now (unit_in c.args.p.now) c.args.file c.args.parts.now) c.loop-i.i (length c.args.parts.now.parts) c.args.found.now.items c.loop-i.found.items (omega arith) (omega arith)
    c.loop-i.invariant.0
