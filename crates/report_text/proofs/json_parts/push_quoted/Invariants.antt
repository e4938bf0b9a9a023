use Rattle.std.proofs.Common.{◌≡◌, ◌++◌, ◌∷◌, [], take, flat_map}
use Rattle.analysis_core.specs.JsonReplies.{escaped}
use Rattle.report_text.proofs.json_parts.push_quoted.Given as goal

abbrev pub invariant-loop-c : goal.invariant-loop-c
invariant-loop-c l = l.out.items ≡ (l.fn.out.items ++ 34 ∷ []) ++ flat_map escaped (take l.c-index l.bytes)
