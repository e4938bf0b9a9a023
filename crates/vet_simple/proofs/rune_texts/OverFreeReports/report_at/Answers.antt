use Rattle.unit_read.specs.Subjects.{flag}
use Rattle.findings.specs.Passes.{unit_in, marks_in}
use Rattle.findings.proofs.GainLemmas.{gains_list}
use Rattle.vet_simple.specs.RuneTexts.{rune_texts}
use Rattle.vet_simple.proofs.rune_texts.OverFreeReports.report_at.Goals as goal

pub returns : goal.returns
returns c =
    gains_list (rune_texts (flag c.args.self.now.free.now.items) (unit_in c.args.pass.now) (marks_in c.args.pass.now) c.args.at c.args.node.now) c.args.found.now.items c.report_rune.new.found.items
    c.in_ok-report_rune.ensures
