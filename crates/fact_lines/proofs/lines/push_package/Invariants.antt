use Rattle.std.proofs.Common.{◌≡◌, ◌++◌, take}
use Rattle.fact_lines.specs.Lines.{package_lines}
use Rattle.fact_lines.proofs.lines.push_package.Given as goal

abbrev pub invariant-loop-pair : goal.invariant-loop-pair
invariant-loop-pair l = l.lines.items ≡ l.fn.lines.items ++ package_lines l.path (take l.pair-index l.facts)
