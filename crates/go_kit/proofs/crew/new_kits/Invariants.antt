use Rattle.std.proofs.Common.{◌≡◌, length}
use Rattle.std.specs.Prelude.{sum_by}
use Rattle.go_kit.proofs.crew.new_kits.Given as goal

abbrev pub invariant-loop-made : goal.invariant-loop-made
invariant-loop-made l = (length l.kits.items ≡ l.made) × (sum_by (λ k. k.loads) l.kits.items ≡ 0) × (sum_by (λ k. k.runs) l.kits.items ≡ 0)
