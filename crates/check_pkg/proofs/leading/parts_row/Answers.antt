use Rattle.std.proofs.Common.{◌∙◌, ap}
use Rattle.node_values.specs.Parents.{at}
use Rattle.check_pkg.specs.Leading.{has_names_at}
use Rattle.check_pkg.proofs.ElsewhereLemmas.{row_more}
use Rattle.check_pkg.proofs.leading.parts_row.Goals as goal

pub loop-n-preserved : goal.loop-n-preserved
loop-n-preserved c =
    let nodes = c.args.nodes.now in
    let parents = c.args.parents.now in
    row_more (λ n. has_names_at nodes (at parents n)) c.loop-n.row.items c.push.new.self.items c.loop-n.n c.has_names_at-is.result c.loop-n.invariant
    (c.has_names_at-is.ensures ∙ ap (has_names_at nodes) c.parent_at.ensures) c.in_ok-push.ensures.items
