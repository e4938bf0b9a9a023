use Rattle.std.proofs.Common.{arith}
use Rattle.findings.specs.Passes.{unit_in, marks_in}
use Rattle.vet_never.specs.Knowing.{handed_in}
use Rattle.vet_never.proofs.CalleeLemmas.{none_numbered, one_numbered, all_numbered}
use Rattle.vet_never.proofs.calls.call_row.Goals as goal

pub loop-n-init : goal.loop-n-init
loop-n-init c = none_numbered (unit_in c.args.p.now) (marks_in c.args.p.now) (handed_in c.args.known.now) c.args.file c.in_ok-calls.calls.items c.in_ok-calls.ensures.items

pub loop-n-preserved : goal.loop-n-preserved
loop-n-preserved c =
    one_numbered (unit_in c.args.p.now) (marks_in c.args.p.now) (handed_in c.args.known.now) c.args.file c.loop-n.n c.loop-n.calls.items c.push.new.self.items c.in_ok-one.one c.loop-n.invariant c.in_ok-one.ensures
    c.in_ok-push.ensures.items

pub returns : goal.returns
returns c =
    all_numbered (unit_in c.args.p.now) (marks_in c.args.p.now) (handed_in c.args.known.now) c.args.file c.loop-n.n c.args.count c.loop-n.calls.items (omega (arith, c.loop-n-test.false, c.loop-n.auto.n-end)) c.loop-n.invariant
