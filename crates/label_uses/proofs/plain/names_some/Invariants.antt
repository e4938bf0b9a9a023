use Rattle.std.proofs.Common.{ℕ, ◌<◌}
use Rattle.label_uses.specs.Plain.{NamesAt}
use Rattle.label_uses.proofs.plain.names_some.Given as goal

abbrev pub invariant-loop-p : goal.invariant-loop-p
invariant-loop-p l = (m : ℕ) → m < l.p → NamesAt l.nodes m → ⊥
