use Rattle.std.proofs.Common.{◌≡◌, take}
use Rattle.fact_lines.specs.Lines.{all_facts}
use Rattle.fact_lines.proofs.lines.all_facts.Given as goal

abbrev pub invariant-loop-k : goal.invariant-loop-k
invariant-loop-k l = l.lines.items ≡ all_facts (take l.k l.packages) (take l.k l.facts)
