use Rattle.std.proofs.Common.{ℕ, ◌<◌}
use Rattle.body_facts.specs.Asking.{MayFailBelow}
use Rattle.body_facts.proofs.asking.asks_bodies.Given as goal

abbrev pub invariant-loop-k : goal.invariant-loop-k
invariant-loop-k l = MayFailBelow l.u.trees.now l.k → ⊥
