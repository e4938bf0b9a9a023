use Rattle.import_graph.proofs.OneLemmas.{one-answer}
use Rattle.import_graph.proofs.laws.one_answer_of_packages.Goals as goal

pub returns : goal.returns
returns c = one-answer
