use Rattle.std.proofs.Common.{◌≡◌, ◌≤◌, ◌<◌, ◌-◌, ◌+◌, ℕ, length, ap, ◌∙◌, subst, arith}
use Rattle.node_values.specs.Handed.{AreHandedFrom, handed}
use Rattle.node_values.specs.Parents.{at}
use Rattle.node_values.proofs.HandLemmas.{handed_more, all_handed}
use Rattle.node_values.proofs.handing.hand_down.Goals as goal

pub loop-left-preserved : goal.loop-left-preserved
loop-left-preserved g c =
    let rule = g.R.Hands.rule c.args.rule.now in
    let top = g.R.Hands.top c.args.rule.now in
    let nodes = c.args.nodes.now in
    let left = c.loop-left.left in
    let some : 0 < left = omega (arith, c.loop-left-test.true) in
    let high : left ≤ length nodes = c.loop-left.invariant.high in
    let same : left ≡ (left - 1) + 1 = omega arith in
    record {
      filled = handed_more rule top nodes c.args.parents.now c.loop-left.found.items (left - 1) c.handed-value.result c.requires.tree c.requires.parents (omega arith)
          (c.handed-value.ensures ∙ (ap (λ x. handed rule top nodes x (left - 1) c.number_at.result) c.deref.ensures.value ∙ ap (λ x. handed rule top nodes c.loop-left.found.items (left - 1) x) c.number_at.ensures))
          (subst (λ (x : ℕ). AreHandedFrom rule top nodes (at c.args.parents.now) x c.loop-left.found.items) same c.loop-left.invariant.filled);
      high = omega arith;
    }

pub returns : goal.returns
returns g c =
    all_handed (g.R.Hands.rule c.args.rule.now) (g.R.Hands.top c.args.rule.now) c.args.nodes.now c.args.parents.now c.loop-left.found.items c.loop-left.left
    c.requires.tree c.requires.parents c.loop-left-test.false c.loop-left.invariant.filled
