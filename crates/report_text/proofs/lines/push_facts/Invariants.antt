use Rattle.std.proofs.Common.{◌≡◌, ◌++◌, take, flat_map}
use Rattle.analysis_core.specs.Replies.{fact_line}
use Rattle.report_text.proofs.lines.push_facts.Given as goal

abbrev pub invariant-loop-line : goal.invariant-loop-line
invariant-loop-line l = l.out.items ≡ l.fn.out.items ++ flat_map fact_line (take l.line-index l.facts)
