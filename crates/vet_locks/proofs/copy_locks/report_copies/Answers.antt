use Rattle.std.proofs.Common.{arith}
use Rattle.findings.specs.Passes.{unit_in, marks_in}
use Rattle.findings.proofs.GainLemmas.{below_none, below_more, below_all}
use Rattle.vet_locks.specs.Suspects.{count_of}
use Rattle.vet_locks.specs.CopyLocks.{IsNthTold}
use Rattle.vet_locks.proofs.copy_locks.report_copies.Goals as goal

pub loop-i-init : goal.loop-i-init
loop-i-init c = below_none (IsNthTold (unit_in c.args.p.now) (marks_in c.args.p.now) c.args.at.file c.args.node.now) c.args.found.now.items

pub loop-i-preserved : goal.loop-i-preserved
loop-i-preserved c =
    below_more (IsNthTold (unit_in c.args.p.now) (marks_in c.args.p.now) c.args.at.file c.args.node.now) c.loop-i.i c.args.found.now.items c.loop-i.found.items c.report_nth.new.found.items c.loop-i.invariant c.in_ok-report_nth.ensures

pub returns : goal.returns
returns c =
    below_all (IsNthTold (unit_in c.args.p.now) (marks_in c.args.p.now) c.args.at.file c.args.node.now) c.loop-i.i (count_of (unit_in c.args.p.now) c.args.at.file c.args.node.now) c.args.found.now.items c.loop-i.found.items
    (omega (arith, c.count_of-count.ensures)) c.loop-i.invariant
