-- Whether a body never returns depends on what labels denote, and not on how they are listed.
use Rattle.std.proofs.Common.{◌≡◌, ◌==◌, ◌&&◌, ◌/◌, ◌%◌, ℕ, Bool, Option, Some, None, List, slice_get, refl, sym, ap, ◌∙◌}
use Rattle.std.specs.Prelude.{option_and_then}
use Rattle.go_tree.specs.declared.tree.FileTree.{FileTree}
use Rattle.go_tree.specs.declared.tree.NodeKind.{NodeKind}
use Rattle.flow.specs.declared.point.Around.{Around}
use Rattle.flow.specs.Around.{label_at, labeled_target, target_with}
use Rattle.flow.specs.Edges.{before}
use Rattle.flow.specs.Flow.{Leads, within, jump, Flow, Reached, here, further, is_stopped, NeverReturns}

module _ (tree : FileTree) (labels other : List (Option ℕ)) (same : (j : ℕ) → label_at labels j ≡ label_at other j) where
  target_same : (which : NodeKind) (a : Around) (o : Option ℕ) → target_with tree labels which a o ≡ target_with tree other which a o
  target_same which a None = refl
  target_same which a (Some j) = ap (λ x. option_and_then (labeled_target tree which) x) (same j)

  leads_moved : (p q : ℕ) → Leads tree labels p q → Leads tree other p q
  leads_moved p q (within n node there edge) = within n node there edge
  leads_moved p q (jump n node a there at around to) = jump n node a there at around (sym (target_same node.kind a (slice_get node.parts 0)) ∙ to)

  module _ (stops others : ℕ → Bool) (alike : (n : ℕ) → stops n ≡ others n) where
    stopped_same : (p : ℕ) → is_stopped stops p ≡ is_stopped others p
    stopped_same p = ap (λ b. p % 2 == 0 && b) (alike (p / 2))

    flow_moved : (p q : ℕ) → Flow tree labels stops p q → Flow tree other others p q
    flow_moved p q step = (sym (stopped_same p) ∙ step.0, leads_moved p q step.1)

    reached_moved : (start p : ℕ) → Reached (Flow tree labels stops) start p → Reached (Flow tree other others) start p
    reached_moved start p here = here
    reached_moved start p (further {p = q} before_it step) = further (reached_moved start q before_it) (flow_moved q p step)

pub never_moved : (tree : FileTree) (labels other : List (Option ℕ)) (stops others : ℕ → Bool) (body : ℕ) → ((j : ℕ) → label_at labels j ≡ label_at other j) → ((n : ℕ) → stops n ≡ others n)
    → NeverReturns tree labels stops body → NeverReturns tree other others body
never_moved tree labels other stops others body same alike never p exit reached =
    never p exit (reached_moved tree other labels (λ j. sym (same j)) others stops (λ n. sym (alike n)) (before body) p reached)
