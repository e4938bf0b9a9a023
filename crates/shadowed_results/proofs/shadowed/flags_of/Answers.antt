use Rattle.std.proofs.Common.{arith}
use Rattle.shadowed_results.specs.InCode.{is_flagged}
use Rattle.shadowed_results.proofs.ValueLemmas.{no_values, value_more, value_all}
use Rattle.shadowed_results.proofs.shadowed.flags_of.Goals as goal

pub loop-n-init : goal.loop-n-init
loop-n-init c = no_values (is_flagged c.args.tree.now c.args.answers.now) c.new-flags.result.items c.new-flags.ensures.items

pub loop-n-preserved : goal.loop-n-preserved
loop-n-preserved c =
    value_more (is_flagged c.args.tree.now c.args.answers.now) c.is_flagged.result c.loop-n.n c.loop-n.flags.items c.push.new.self.items c.in_ok-push.ensures.items c.is_flagged.ensures c.loop-n.invariant

pub returns : goal.returns
returns c =
    value_all (is_flagged c.args.tree.now c.args.answers.now) c.loop-n.n _ c.loop-n.flags.items
    (let t = c.loop-n-test.false in let e = c.loop-n.auto.n-end in let k = c.count_nodes-n-end.ensures in omega arith) c.loop-n.invariant
