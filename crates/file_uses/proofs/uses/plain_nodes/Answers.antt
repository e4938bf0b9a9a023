use Rattle.file_uses.proofs.UseLemmas.{begin, go_on, finish}
use Rattle.file_uses.proofs.uses.plain_nodes.Goals as goal

pub loop-at-init : goal.loop-at-init
loop-at-init c = begin c.args.nodes.now c.in_ok-flags.flags.items c.in_ok-flags.ensures

pub loop-at-preserved : goal.loop-at-preserved
loop-at-preserved c = go_on c.args.nodes.now c.loop-at.at c.loop-at.flags.items c.clear_named.new.flags.items c.loop-at.invariant c.clear_named.ensures

pub returns : goal.returns
returns c = finish c.args.nodes.now c.loop-at.at c.loop-at.flags.items c.loop-at-test.false c.loop-at.invariant
