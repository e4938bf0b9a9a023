use Rattle.bind.proofs.StepLemmas.{placed_node, no_place}
use Rattle.bind.proofs.answer.local_node.Goals as goal

pub returns-in-Some : goal.returns-in-Some
returns-in-Some c = placed_node c.args.locals.now c.args.at c.local_place.result c.in-Some.place c.node_at.result c.local_place.ensures c.in-Some.is c.node_at.ensures

pub returns-in-None : goal.returns-in-None
returns-in-None c = no_place c.args.locals.now c.args.at c.local_place.result c.local_place.ensures c.in-None.is
