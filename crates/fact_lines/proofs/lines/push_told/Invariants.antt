use Rattle.std.proofs.Common.{◌≡◌, ◌++◌, map}
use Rattle.fact_lines.specs.Lines.{fact_line}
use Rattle.fact_lines.proofs.lines.push_told.Given as goal

abbrev pub invariant-loop-text : goal.invariant-loop-text
invariant-loop-text l = l.lines.items ++ map (fact_line l.path l.analyzer) l.text-iterator.rest.items ≡ l.fn.lines.items ++ map (fact_line l.path l.analyzer) l.fn.told.items
