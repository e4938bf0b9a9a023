use Rattle.std.proofs.Common.{false, refl, arith}
use Rattle.go_tree.proofs.NodeLemmas.{differ}
use Rattle.body_facts.proofs.AskingLemmas.{none_below_more, none_below_all}
use Rattle.body_facts.proofs.asking.asks_bodies.Goals as goal

pub loop-k-init : goal.loop-k-init
loop-k-init c = λ m. absurd (let low = m.2 in omega (arith, low))

pub loop-k-preserved : goal.loop-k-preserved
loop-k-preserved c =
    none_below_more c.args.u.now.trees.now c.loop-k.k c.tree_at.result.now c.tree_at.ensures (λ may. differ c.in_ok-may.may c.if-may.false (c.in_ok-may.ensures.1 may)) c.loop-k.invariant

pub returns-then-may : goal.returns-then-may
returns-then-may c = (λ e. (c.loop-k.k, c.tree_at.result.now, c.tree_at.ensures, c.in_ok-may.ensures.0 c.if-may.true), λ w. refl)

pub returns : goal.returns
returns c = (
  λ e. absurd (differ false refl e),
  λ w. absurd (none_below_all c.args.u.now.trees.now c.loop-k.k (let t = c.loop-k-test.false in let e = c.loop-k.auto.k-end in omega (arith, t, e)) c.loop-k.invariant w),
)
