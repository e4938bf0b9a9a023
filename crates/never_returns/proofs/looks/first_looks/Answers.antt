use Rattle.std.proofs.Common.{◌<◌, List, length, sym, subst}
use Rattle.need_order.specs.declared.needed.Needed.{Needed}
use Rattle.need_order.specs.Graphs.{IsClosed, IsOrder, Needs}
use Rattle.never_returns.proofs.LookLemmas.{closed_so, AreVertices}
use Rattle.never_returns.proofs.looks.first_looks.Goals as goal

pub order-requires-clause-closed : goal.order-requires-clause-closed
order-requires-clause-closed c = subst IsClosed (sym c.in_ok-graph.ensures) (closed_so c.args.rows.now c.requires.within)

pub returns : goal.returns
returns c i w =
    let at = (subst (λ (l : List Needed). AreVertices l c.in_ok-found.found.items) c.deref.ensures.value c.in_ok-found.ensures) i w in
    let low = (subst (λ g. IsOrder (Needs g) (length g) c.in_ok-needed.needed.items) c.in_ok-graph.ensures c.in_ok-needed.ensures).within at.0 at.1 at.2 in
    subst (λ n. n < length c.args.rows.now) at.3 low
