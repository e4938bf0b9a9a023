use Rattle.std.proofs.Common.{◌≡◌, ℕ, List, map, take}
use Rattle.fact_codec.specs.declared.wraps.Wraps.{Wraps}
use Rattle.fact_lines.specs.Told.{wraps_line}
use Rattle.fact_lines.proofs.told.wraps_lines.Given as goal

abbrev pub invariant-loop-i : goal.invariant-loop-i
invariant-loop-i l = l.lines.items ≡ map (λ (e : List ℕ × Wraps). wraps_line e.0 e.1) (take l.i l.table)
