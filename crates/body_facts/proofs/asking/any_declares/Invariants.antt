use Rattle.std.proofs.Common.{ℕ, ◌<◌}
use Rattle.body_facts.specs.Asking.{DeclaresIn, IsPast}
use Rattle.body_facts.proofs.asking.any_declares.Given as goal

abbrev pub invariant-loop-n : goal.invariant-loop-n
invariant-loop-n l = IsPast l.nodes l.n l.past × ((f d : ℕ) → f < l.n → DeclaresIn l.nodes f d → ⊥)
