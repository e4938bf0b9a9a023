use Rattle.std.proofs.Common.{arith}
use Rattle.findings.specs.Passes.{unit_in, marks_in}
use Rattle.vet_printf.specs.Items.{IsKindsCell}
use Rattle.vet_printf.proofs.EachLemmas.{none_yet, one_more, all_there}
use Rattle.vet_printf.proofs.kind_rows.kinds_to.Goals as goal

pub loop-n-init : goal.loop-n-init
loop-n-init c = none_yet (IsKindsCell c.args.known.now (unit_in c.args.p.now) (marks_in c.args.p.now) c.args.x.now c.args.file) c.in_ok-row.row.items c.in_ok-row.ensures.items

pub loop-n-preserved : goal.loop-n-preserved
loop-n-preserved c =
    one_more (IsKindsCell c.args.known.now (unit_in c.args.p.now) (marks_in c.args.p.now) c.args.x.now c.args.file) c.loop-n.n c.loop-n.row.items c.push.new.self.items c.in_ok-one.one c.loop-n.invariant c.in_ok-one.ensures c.in_ok-push.ensures.items

pub returns : goal.returns
returns c =
    all_there (IsKindsCell c.args.known.now (unit_in c.args.p.now) (marks_in c.args.p.now) c.args.x.now c.args.file) c.loop-n.n c.args.end c.loop-n.row.items (omega (arith, c.loop-n-test.false, c.loop-n.auto.n-end)) c.loop-n.invariant
