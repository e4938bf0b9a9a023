use Rattle.action_graph.proofs.RunLaws.{found-stand}
use Rattle.action_graph.proofs.laws.findings_stand.Goals as goal

pub returns : goal.returns
returns c = found-stand c.findings_stand.ensures
