use Rattle.unit_read.specs.Subjects.{unit_of}
use Rattle.elaborate.proofs.CoverLemmas.{nodes_in}
use Rattle.elaborate.proofs.whole.mark_objects.Goals as goal

pub mark_nodes-requires-clause-nodes : goal.mark_nodes-requires-clause-nodes
mark_nodes-requires-clause-nodes g c = nodes_in (unit_of c.args.work.now.subject.now) c.args.number c.args.block c.requires.block

pub mark_nodes-requires-clause-marked : goal.mark_nodes-requires-clause-marked
mark_nodes-requires-clause-marked g c = c.requires.early
