use Rattle.scopes.specs.Regions.{parameters}
use Rattle.scopes.proofs.WalkLemmas.{more, parameters_join}
use Rattle.scopes.proofs.walk.push_all_parameters.Goals as goal

pub loop-part-preserved : goal.loop-part-preserved
loop-part-preserved c =
    more parameters parameters_join c.args.nodes.now c.args.parts.now c.loop-part.part-index c.args.names.now.items c.loop-part.names.items c.push_parameters.new.names.items c.loop-part-test.true c.loop-part.invariant c.in_ok-push_parameters.ensures
