use Rattle.std.proofs.Common.{◌≡◌, ◌↔◌, ℕ, List, true, false, subst}
use Rattle.std.specs.Prelude.{slice_index_or}
use Rattle.std.specs.List.{Contains}
use Rattle.flow.specs.Flow.{stops_of, is_exit, Reached}
use Rattle.flow.specs.Search.{targets_from}
use Rattle.flow.proofs.SearchLemmas.{decided, decided_by}
use Rattle.flow.proofs.never.never_returns.Goals as goal

pub returns-clause-graph : goal.returns-clause-graph
returns-clause-graph c labels graph =
    decided c.args.tree.now labels (stops_of c.args.calls.now (λ f. slice_index_or c.args.members.now f false)) c.args.graph.now c.args.body c.in_ok-found.found.items c.before-2.result c.some_exit.result
    graph c.before-2.ensures
    (subst (λ (rows : List (List ℕ)). (q : ℕ) → Contains c.in_ok-found.found.items q ↔ Reached (λ p r. Contains (targets_from rows (stops_of c.args.calls.now (λ f. slice_index_or c.args.members.now f false)) p) r) c.before-2.result q) c.rows.ensures c.in_ok-found.ensures)
    (subst (λ (l : List ℕ). (c.some_exit.result ≡ true) ↔ ((p : ℕ) × Contains l p × (is_exit c.args.tree.now c.args.body p ≡ true))) c.deref.ensures.value c.some_exit.ensures)

pub returns-clause-rows : goal.returns-clause-rows
returns-clause-rows c =
    decided_by c.args.tree.now (stops_of c.args.calls.now (λ f. slice_index_or c.args.members.now f false)) c.args.graph.now c.args.body c.in_ok-found.found.items c.before-2.result c.some_exit.result
    c.before-2.ensures
    (subst (λ (rows : List (List ℕ)). (q : ℕ) → Contains c.in_ok-found.found.items q ↔ Reached (λ p r. Contains (targets_from rows (stops_of c.args.calls.now (λ f. slice_index_or c.args.members.now f false)) p) r) c.before-2.result q) c.rows.ensures c.in_ok-found.ensures)
    (subst (λ (l : List ℕ). (c.some_exit.result ≡ true) ↔ ((p : ℕ) × Contains l p × (is_exit c.args.tree.now c.args.body p ≡ true))) c.deref.ensures.value c.some_exit.ensures)
