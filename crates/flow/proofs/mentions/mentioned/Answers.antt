use Rattle.std.proofs.Common.{◌≡◌, ◌↔◌, ℕ, List, [], false, Option, Some, subst}
use Rattle.std.specs.Prelude.{slice_index_or}
use Rattle.std.specs.List.{Contains}
use Rattle.flow.specs.Flow.{stops_of, Reached}
use Rattle.flow.specs.Search.{targets_from, called_at}
use Rattle.flow.proofs.MentionLemmas.{mentions_are, mentions_by}
use Rattle.flow.proofs.mentions.mentioned.Goals as goal

pub returns-clause-graph : goal.returns-clause-graph
returns-clause-graph c tree labels graph =
    mentions_are tree labels c.args.graph.now c.args.calls.now (λ f. slice_index_or [] f false) c.args.body c.before-2.result c.in_ok-points.points.items c.in_ok-found.found.items
    graph c.before-2.ensures
    (subst (λ (rows : List (List ℕ)). (q : ℕ) → Contains c.in_ok-points.points.items q ↔ Reached (λ p r. Contains (targets_from rows (stops_of [] (λ f. slice_index_or [] f false)) p) r) c.before-2.result q) c.rows.ensures c.in_ok-points.ensures)
    (subst (λ (l : List ℕ). (f : ℕ) → Contains c.in_ok-found.found.items f ↔ ((p : ℕ) × Contains l p × (called_at c.args.calls.now p ≡ Some f))) c.deref.ensures.value c.in_ok-found.ensures)

pub returns-clause-rows : goal.returns-clause-rows
returns-clause-rows c =
    mentions_by c.args.graph.now c.args.calls.now (λ f. slice_index_or [] f false) c.args.body c.before-2.result c.in_ok-points.points.items c.in_ok-found.found.items
    c.before-2.ensures
    (subst (λ (rows : List (List ℕ)). (q : ℕ) → Contains c.in_ok-points.points.items q ↔ Reached (λ p r. Contains (targets_from rows (stops_of [] (λ f. slice_index_or [] f false)) p) r) c.before-2.result q) c.rows.ensures c.in_ok-points.ensures)
    (subst (λ (l : List ℕ). (f : ℕ) → Contains c.in_ok-found.found.items f ↔ ((p : ℕ) × Contains l p × (called_at c.args.calls.now p ≡ Some f))) c.deref.ensures.value c.in_ok-found.ensures)
