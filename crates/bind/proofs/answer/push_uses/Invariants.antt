use Rattle.std.proofs.Common.{◌≡◌, ◌++◌}
use Rattle.bind.specs.Answers.{uses_before}
use Rattle.bind.specs.Places.{placed}
use Rattle.bind.specs.Tables.{found}
use Rattle.bind.proofs.answer.push_uses.Given as goal

abbrev pub invariant-loop-at : goal.invariant-loop-at
invariant-loop-at l = l.out.items ≡ l.fn.out.items ++ uses_before l.file l.number (record { top_names = found l.top_names; imports = found l.imports; universe = placed l.universe }) l.at
