use Rattle.scopes.proofs.WalkLemmas.{of_first, not_empty}
use Rattle.scopes.proofs.walk.push_first.Goals as goal

pub returns : goal.returns
returns c =
    of_first c.args.nodes.now c.args.parts.now c.args.names.now.items c.push_list.new.names.items (not_empty c.args.parts.now c.if-is_empty.ensures) c.in_ok-push_list.ensures
