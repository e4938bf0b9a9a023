use Rattle.node_values.proofs.RangeLemmas.{held_within}
use Rattle.node_values.proofs.ranges.holds_within.Goals as goal

pub returns : goal.returns
returns c = λ p n low. held_within c.args.nodes.now c.requires.tree c.requires.tiled p n low
