use Rattle.std.proofs.Common.{sym, subst}
use Rattle.elaborate.specs.Settling.{IsSettled, left}
use Rattle.elaborate.proofs.WalkLemmas.{follows_itself, follows_then, outcome_settled, none_left}
use Rattle.elaborate.proofs.settling.settle.Goals as goal

pub loop-alloc-init : goal.loop-alloc-init
loop-alloc-init c = record { over = c.requires.over; follows = follows_itself c.args.u.now c.args.s.now c.args.step }

pub loop-alloc-preserved : goal.loop-alloc-preserved
loop-alloc-preserved c = record {
  over = c.in_ok-next.ensures.over;
  follows = follows_then c.args.u.now c.args.s.now c.args.step c.loop-alloc.now c.in_ok-next.next c.loop-alloc.invariant.follows c.in_ok-next.ensures.follows;
}

pub returns : goal.returns
returns c =
    let u = c.args.u.now in
    let s = c.args.s.now in
    subst (IsSettled u s c.args.step) (sym c.outcome.ensures)
    (outcome_settled u s c.args.step c.loop-alloc.now (none_left (left c.loop-alloc.now) c.asks.result c.asks.ensures.1 c.loop-alloc-test.false)
    c.loop-alloc.invariant.over c.loop-alloc.invariant.follows)
