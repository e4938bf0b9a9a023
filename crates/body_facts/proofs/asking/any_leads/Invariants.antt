use Rattle.std.proofs.Common.{ℕ, ◌<◌}
use Rattle.body_facts.specs.Asking.{LeadsAt}
use Rattle.body_facts.proofs.asking.any_leads.Given as goal

abbrev pub invariant-loop-n : goal.invariant-loop-n
invariant-loop-n l = (m : ℕ) → m < l.n → LeadsAt l.nodes m → ⊥
