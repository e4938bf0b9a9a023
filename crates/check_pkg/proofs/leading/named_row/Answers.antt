use Rattle.check_pkg.proofs.NamedLemmas.{row_named}
use Rattle.check_pkg.proofs.leading.named_row.Goals as goal

pub returns : goal.returns
returns c =
    row_named c.args.tree.now.nodes c.in_ok-parents.parents.items c.in_ok-row.row.items c.spelled_nodes.ensures.tree c.in_ok-parents.ensures
    (rw (c.as_slice.ensures, c.deref.ensures.value) at c.in_ok-row.ensures)
