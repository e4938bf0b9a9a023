use Rattle.findings.specs.Passes.{unit_in, marks_in}
use Rattle.findings.proofs.GainLemmas.{gains_list}
use Rattle.vet_simple.specs.StructTags.{tag_faults}
use Rattle.vet_simple.proofs.struct_tags.OverSpotsReports.report_at.Goals as goal

pub returns : goal.returns
returns c =
    gains_list (tag_faults c.args.self.now.spots.now.paths.now (unit_in c.args.pass.now) (marks_in c.args.pass.now) c.args.at c.args.node.now) c.args.found.now.items c.report_struct.new.found.items
    c.in_ok-report_struct.ensures
