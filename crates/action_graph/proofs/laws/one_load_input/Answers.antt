use Rattle.action_graph.proofs.NodeLemmas.{one_load}
use Rattle.action_graph.proofs.laws.one_load_input.Goals as goal

pub returns : goal.returns
returns c = one_load
