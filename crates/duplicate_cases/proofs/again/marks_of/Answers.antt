use Rattle.std.proofs.Common.{arith}
use Rattle.duplicate_cases.proofs.SeenLemmas.{none_seen, seen_more, seen_all}
use Rattle.duplicate_cases.proofs.again.marks_of.Goals as goal

pub loop-n-init : goal.loop-n-init
loop-n-init c = none_seen c.args.s.now c.args.file c.args.list.now c.new-marks.result.items c.new-marks.ensures.items

pub loop-n-preserved : goal.loop-n-preserved
loop-n-preserved c =
    seen_more c.args.s.now c.args.file c.args.list.now c.loop-n.n-index _ c.placed_mark-mark.result c.loop-n.marks.items c.push.new.self.items c.in_ok-push.ensures.items
    c.placed_mark-mark.ensures.is c.placed_mark-mark.ensures.over c.loop-n.invariant

pub returns : goal.returns
returns c = seen_all c.args.s.now c.args.file c.args.list.now c.loop-n.n-index _ c.loop-n.marks.items (omega arith) c.loop-n.invariant
