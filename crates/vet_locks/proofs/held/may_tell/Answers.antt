use Rattle.std.proofs.Common.{arith}
use Rattle.findings.specs.Passes.{unit_in, marks_in}
use Rattle.vet_locks.specs.Held.{MayTellNth}
use Rattle.vet_locks.specs.Suspects.{count_of}
use Rattle.vet_locks.proofs.ReportLemmas.{none_first, none_more, none_all, one_is}
use Rattle.vet_locks.proofs.held.may_tell.Goals as goal

pub loop-i-init : goal.loop-i-init
loop-i-init c = none_first (MayTellNth (unit_in c.args.p.now) (marks_in c.args.p.now) c.args.file c.args.node.now)

pub loop-i-preserved : goal.loop-i-preserved
loop-i-preserved c =
    none_more (MayTellNth (unit_in c.args.p.now) (marks_in c.args.p.now) c.args.file c.args.node.now) c.loop-i.i c.may_tell_nth.result c.loop-i.invariant c.may_tell_nth.ensures c.if-may_tell_nth.false

pub returns-then-may_tell_nth : goal.returns-then-may_tell_nth
returns-then-may_tell_nth c =
    one_is (MayTellNth (unit_in c.args.p.now) (marks_in c.args.p.now) c.args.file c.args.node.now) c.loop-i.i (count_of (unit_in c.args.p.now) c.args.file c.args.node.now) c.may_tell_nth.result
    (omega (arith, c.count_of-count.ensures)) c.may_tell_nth.ensures c.if-may_tell_nth.true

pub returns : goal.returns
returns c =
    none_all (MayTellNth (unit_in c.args.p.now) (marks_in c.args.p.now) c.args.file c.args.node.now) c.loop-i.i (count_of (unit_in c.args.p.now) c.args.file c.args.node.now) (omega (arith, c.count_of-count.ensures)) c.loop-i.invariant
