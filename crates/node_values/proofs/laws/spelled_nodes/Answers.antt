use Rattle.node_values.proofs.TreeLemmas.{spelled_tree}
use Rattle.node_values.proofs.TileLemmas.{spelled_tiled}
use Rattle.node_values.proofs.laws.spelled_nodes.Goals as goal

pub returns-clause-tree : goal.returns-clause-tree
returns-clause-tree c = spelled_tree c.args.tree.now c.args.bytes.now c.requires

pub returns-clause-tiled : goal.returns-clause-tiled
returns-clause-tiled c = spelled_tiled c.args.tree.now c.args.bytes.now c.requires
