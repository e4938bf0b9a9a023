use Rattle.std.proofs.Common.{◌≡◌, ℕ, List, map, take}
use Rattle.fact_codec.specs.declared.units.Never.{Never}
use Rattle.fact_lines.specs.Told.{never_line}
use Rattle.fact_lines.proofs.told.never_lines.Given as goal

abbrev pub invariant-loop-i : goal.invariant-loop-i
invariant-loop-i l = l.lines.items ≡ map (λ (e : List ℕ × Never). never_line e.0) (take l.i l.table)
