use Rattle.action_graph.proofs.RunLaws.{analyzes_once, run_outcome_of_once, run_outcome_once}
use Rattle.action_graph.proofs.laws.one_run_outcome.Goals as goal

pub returns-clause-finding : goal.returns-clause-finding
returns-clause-finding c = analyzes_once

pub returns-clause-outcome : goal.returns-clause-outcome
returns-clause-outcome c = run_outcome_of_once

pub returns-clause-input : goal.returns-clause-input
returns-clause-input c = run_outcome_once
