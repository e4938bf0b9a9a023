use Rattle.action_graph.proofs.StayLaws.{findings_stay}
use Rattle.action_graph.proofs.laws.findings_stay.Goals as goal

pub returns : goal.returns
returns c = findings_stay
