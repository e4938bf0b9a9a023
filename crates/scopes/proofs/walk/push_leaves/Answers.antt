use Rattle.scopes.specs.Regions.{leaf_names}
use Rattle.scopes.proofs.WalkLemmas.{more, leaf_names_join}
use Rattle.scopes.proofs.walk.push_leaves.Goals as goal

pub loop-part-preserved : goal.loop-part-preserved
loop-part-preserved c =
    more leaf_names leaf_names_join c.args.nodes.now c.args.parts.now c.loop-part.part-index c.args.names.now.items c.loop-part.names.items c.push_leaf.new.names.items c.loop-part-test.true c.loop-part.invariant c.in_ok-push_leaf.ensures
