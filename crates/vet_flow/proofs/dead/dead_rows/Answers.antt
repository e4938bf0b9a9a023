use Rattle.std.proofs.Common.{length, arith}
use Rattle.findings.specs.Passes.{unit_in}
use Rattle.vet_flow.proofs.DeadLemmas.{no_rows, row_more, all_rows}
use Rattle.vet_flow.proofs.dead.dead_rows.Goals as goal

pub loop-file-init : goal.loop-file-init
loop-file-init c = no_rows (unit_in c.args.p.now) c.new-rows.result.items c.new-rows.ensures.items

pub loop-file-preserved : goal.loop-file-preserved
loop-file-preserved c = row_more (unit_in c.args.p.now) c.loop-file.file c.loop-file.rows.items c.push.new.self.items c.in_ok-row.row c.loop-file.invariant c.in_ok-row.ensures c.in_ok-push.ensures.items

pub returns : goal.returns
returns c = all_rows (unit_in c.args.p.now) c.loop-file.file (length c.args.p.now.subject.now.trees.now) c.loop-file.rows.items (omega (arith, c.loop-file-test.false, c.loop-file.auto.file-end)) c.loop-file.invariant
