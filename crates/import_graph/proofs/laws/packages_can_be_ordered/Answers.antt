use Rattle.import_graph.proofs.LawLemmas.{numbered, acyclic}
use Rattle.import_graph.proofs.laws.packages_can_be_ordered.Goals as goal

pub returns-clause-numbered : goal.returns-clause-numbered
returns-clause-numbered c = numbered

pub returns-clause-acyclic : goal.returns-clause-acyclic
returns-clause-acyclic c = acyclic
