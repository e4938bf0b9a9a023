use Rattle.action_graph.proofs.OutcomeLaws.{told}
use Rattle.action_graph.proofs.laws.outcome_is_read.Goals as goal

pub returns : goal.returns
returns c = told
