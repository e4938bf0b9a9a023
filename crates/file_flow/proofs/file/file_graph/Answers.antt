use Rattle.file_flow.proofs.file.file_graph.Goals as goal

pub graph_of-requires-clause-tree : goal.graph_of-requires-clause-tree
graph_of-requires-clause-tree c = c.spelled_is_a_tree.ensures c.args.bytes.now c.args.tree.now c.requires.spelled

pub returns : goal.returns
returns c = record { told = c.requires.told; graph = c.in_ok-graph.ensures }
