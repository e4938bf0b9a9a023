use Rattle.action_graph.proofs.RunLaws.{one_run}
use Rattle.action_graph.proofs.laws.one_run_input.Goals as goal

pub returns : goal.returns
returns c = one_run
