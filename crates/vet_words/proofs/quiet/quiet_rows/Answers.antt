use Rattle.findings.specs.Passes.{unit_in, marks_in}
use Rattle.vet_words.specs.Quiet.{quiet_nodes}
use Rattle.vet_words.proofs.RowLemmas.{rows_none, rows_more}
use Rattle.vet_words.proofs.quiet.quiet_rows.Goals as goal

pub loop-file-init : goal.loop-file-init
loop-file-init c = rows_none (quiet_nodes (unit_in c.args.p.now) (marks_in c.args.p.now)) c.new-rows.result.items c.new-rows.ensures.items

pub loop-file-preserved : goal.loop-file-preserved
loop-file-preserved c =
    rows_more (quiet_nodes (unit_in c.args.p.now) (marks_in c.args.p.now)) c.loop-file.rows.items c.push.new.self.items c.loop-file.file c.in_ok-row.row c.loop-file.invariant c.in_ok-row.ensures
    c.in_ok-push.ensures.items
