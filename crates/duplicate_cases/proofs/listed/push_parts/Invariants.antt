use Rattle.std.proofs.Common.{◌≡◌, ◌++◌, take}
use Rattle.duplicate_cases.proofs.listed.push_parts.Given as goal

abbrev pub invariant-loop-part : goal.invariant-loop-part
invariant-loop-part l = l.out.items ≡ l.fn.out.items ++ take l.part-index l.parts
