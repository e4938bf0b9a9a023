use Rattle.std.proofs.Common.{length, arith}
use Rattle.findings.specs.Passes.{unit_in, marks_in}
use Rattle.findings.specs.InCode.{reported_in}
use Rattle.findings.proofs.GainLemmas.{below_none, below_more, below_all}
use Rattle.findings.proofs.running.report_files.Goals as goal

pub loop-file-init : goal.loop-file-init
loop-file-init g c = below_none (reported_in (g.R.Reports.reported c.args.rule.now) (unit_in c.args.pass.now) (marks_in c.args.pass.now)) c.args.found.now.items

pub loop-file-preserved : goal.loop-file-preserved
loop-file-preserved g c =
    below_more (reported_in (g.R.Reports.reported c.args.rule.now) (unit_in c.args.pass.now) (marks_in c.args.pass.now)) c.loop-file.file c.args.found.now.items c.loop-file.found.items
    c.report_file.new.found.items c.loop-file.invariant c.in_ok-report_file.ensures

pub returns : goal.returns
returns g c =
    below_all (reported_in (g.R.Reports.reported c.args.rule.now) (unit_in c.args.pass.now) (marks_in c.args.pass.now)) c.loop-file.file (length (unit_in c.args.pass.now).trees)
    c.args.found.now.items c.loop-file.found.items (omega arith) c.loop-file.invariant
