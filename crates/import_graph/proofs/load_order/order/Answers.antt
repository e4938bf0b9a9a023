use Rattle.std.proofs.Common.{◌∙◌, ap, sym, subst, length, map}
use Rattle.std.specs.List.{filter}
use Rattle.need_order.specs.Graphs.{Needs, IsClosed, IsOrder}
use Rattle.import_graph.specs.Orders.{is_sound_at, IsLoadOrder}
use Rattle.import_graph.proofs.OrderLemmas.{closed, load-order}
use Rattle.import_graph.proofs.load_order.order.Goals as goal

pub order-requires-clause-closed : goal.order-requires-clause-closed
order-requires-clause-closed c = subst IsClosed (sym c.in_ok-graph.ensures) (closed c.args.packages.now c.requires.numbered)

pub returns : goal.returns
returns c =
    subst (IsLoadOrder c.args.packages.now)
    (sym (c.in_ok-order.ensures ∙ ap (λ t. filter (is_sound_at c.args.packages.now) (map (λ e. e.vertex) t)) c.deref.ensures.value))
    (load-order c.args.packages.now c.in_ok-needed.needed.items c.requires.acyclic
    (subst (λ g. IsOrder (Needs g) (length g) c.in_ok-needed.needed.items) c.in_ok-graph.ensures c.in_ok-needed.ensures))
