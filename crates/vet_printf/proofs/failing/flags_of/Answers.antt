use Rattle.std.proofs.Common.{List, ℕ, subst, arith}
use Rattle.std.specs.List.{Contains}
use Rattle.vet_printf.proofs.failing.flags_of.Goals as goal

pub invariant_of-all : goal.invariant_of-all
invariant_of-all c = record { below = c.requires.below; readers_are = c.requires.rows; few = c.requires.few }

pub least-requires : goal.least-requires
least-requires c i w = absurd (let there = subst (λ (l : List ℕ). Contains l i) c.none.ensures w in let low = there.1 in omega (arith, low))
