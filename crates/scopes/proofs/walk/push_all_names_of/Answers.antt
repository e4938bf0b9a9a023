use Rattle.scopes.specs.Regions.{names_of}
use Rattle.scopes.specs.Walk.{has_names}
use Rattle.scopes.proofs.WalkLemmas.{more, names_of_join}
use Rattle.scopes.proofs.walk.push_all_names_of.Goals as goal

pub loop-part-preserved : goal.loop-part-preserved
loop-part-preserved c =
    more (names_of (has_names c.args.bind)) (names_of_join (has_names c.args.bind)) c.args.nodes.now c.args.parts.now c.loop-part.part-index c.args.names.now.items c.loop-part.names.items
    c.push_names_of.new.names.items c.loop-part-test.true c.loop-part.invariant c.in_ok-push_names_of.ensures
