use Rattle.std.proofs.Common.{length, arith}
use Rattle.findings.specs.Passes.{unit_in, marks_in}
use Rattle.vet_printf.specs.Items.{AreKindsRow}
use Rattle.vet_printf.proofs.EachLemmas.{none_yet, one_more, all_there}
use Rattle.vet_printf.proofs.kind_rows.kinds_rows.Goals as goal

pub loop-file-init : goal.loop-file-init
loop-file-init c = none_yet (AreKindsRow c.args.known.now (unit_in c.args.p.now) (marks_in c.args.p.now) c.args.x.now) c.new-rows.result.items c.new-rows.ensures.items

pub loop-file-preserved : goal.loop-file-preserved
loop-file-preserved c =
    one_more (AreKindsRow c.args.known.now (unit_in c.args.p.now) (marks_in c.args.p.now) c.args.x.now) c.loop-file.file c.loop-file.rows.items c.push.new.self.items c.in_ok-row.row c.loop-file.invariant c.in_ok-row.ensures c.in_ok-push.ensures.items

pub returns : goal.returns
returns c =
    let u = unit_in c.args.p.now in
    all_there (AreKindsRow c.args.known.now u (marks_in c.args.p.now) c.args.x.now) c.loop-file.file (length u.trees) c.loop-file.rows.items (omega (arith, c.loop-file-test.false, c.loop-file.auto.file-end)) c.loop-file.invariant
