use Rattle.std.proofs.Common.{◌∙◌, ◌↔◌, ℕ, List, ap, sym, subst}
use Rattle.flow.specs.declared.point.Edge.{Edge}
use Rattle.flow.specs.declared.point.Around.{Around}
use Rattle.std.specs.List.{Contains}
use Rattle.flow.specs.Edges.{edge}
use Rattle.flow.specs.Flow.{edges_from}
use Rattle.flow.specs.Search.{IsGraph, StepsBy}
use Rattle.flow.proofs.GraphLemmas.{is_graph}
use Rattle.flow.proofs.graph.graph_of.Goals as goal

pub returns : goal.returns
returns c =
    let edges = c.in_ok-edges.ensures ∙ ap (λ (t : List Around). edges_from c.args.tree.now c.args.labels.now t 0 c.args.tree.now.nodes) c.deref.ensures.value in
    subst (IsGraph c.args.tree.now c.args.labels.now) (sym c.made.ensures)
    (is_graph c.args.tree.now c.args.labels.now c.in_ok-table.table.items c.in_ok-edges.edges.items c.in_ok-rows.rows.items c.requires.tree c.in_ok-table.ensures edges
    (subst (λ (l : List Edge). (p q : ℕ) → StepsBy c.in_ok-rows.rows.items p q ↔ Contains l (edge p q)) c.deref-2.ensures.value c.in_ok-rows.ensures))
