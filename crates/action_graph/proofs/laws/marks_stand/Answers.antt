use Rattle.action_graph.proofs.Standing.{lines-stand}
use Rattle.action_graph.proofs.laws.marks_stand.Goals as goal

pub returns : goal.returns
returns c = lines-stand
