use Rattle.action_graph.proofs.JudgingLaws.{judges_once, tells_once, told_once}
use Rattle.action_graph.proofs.laws.one_finding.Goals as goal

pub returns-clause-finding : goal.returns-clause-finding
returns-clause-finding c = judges_once

pub returns-clause-text : goal.returns-clause-text
returns-clause-text c = tells_once

pub returns-clause-told : goal.returns-clause-told
returns-clause-told c = told_once
