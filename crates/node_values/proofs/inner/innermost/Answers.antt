use Rattle.node_values.proofs.InnerLemmas.{are_innermost}
use Rattle.node_values.proofs.inner.innermost.Goals as goal

pub returns : goal.returns
returns g c = are_innermost (g.S.Stops.kinds c.args.stops.now) c.args.nodes.now c.args.parents.now c.in_ok-found.found.items c.requires.tree c.requires.parents c.in_ok-found.ensures
