use Rattle.std.proofs.Common.{length, arith}
use Rattle.findings.specs.Passes.{unit_in, marks_in}
use Rattle.vet_locks.specs.Held.{MayTellIn}
use Rattle.vet_locks.proofs.ReportLemmas.{none_first, none_more, none_all, one_is}
use Rattle.vet_locks.proofs.held.may_tell_any.Goals as goal

pub loop-file-init : goal.loop-file-init
loop-file-init c = none_first (MayTellIn (unit_in c.args.p.now) (marks_in c.args.p.now))

pub loop-file-preserved : goal.loop-file-preserved
loop-file-preserved c = none_more (MayTellIn (unit_in c.args.p.now) (marks_in c.args.p.now)) c.loop-file.file c.may_tell_in.result c.loop-file.invariant c.may_tell_in.ensures c.if-may_tell_in.false

pub returns-then-may_tell_in : goal.returns-then-may_tell_in
returns-then-may_tell_in c =
    one_is (MayTellIn (unit_in c.args.p.now) (marks_in c.args.p.now)) c.loop-file.file (length (unit_in c.args.p.now).trees) c.may_tell_in.result (omega arith) c.may_tell_in.ensures c.if-may_tell_in.true

pub returns : goal.returns
returns c = none_all (MayTellIn (unit_in c.args.p.now) (marks_in c.args.p.now)) c.loop-file.file (length (unit_in c.args.p.now).trees) (omega arith) c.loop-file.invariant
