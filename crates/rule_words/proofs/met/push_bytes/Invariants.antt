use Rattle.std.proofs.Common.{◌≡◌, ◌++◌, take}
use Rattle.rule_words.proofs.met.push_bytes.Given as goal

abbrev pub invariant-loop-b : goal.invariant-loop-b
invariant-loop-b l = l.out.items ≡ l.fn.out.items ++ take l.b-index l.text
