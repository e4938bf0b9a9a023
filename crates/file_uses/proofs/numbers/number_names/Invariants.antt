use Rattle.file_uses.specs.Numbers.{name_in, found}
use Rattle.file_uses.proofs.NumberLemmas.{Numbered}
use Rattle.file_uses.proofs.numbers.number_names.Given as goal

abbrev pub invariant-loop-at : goal.invariant-loop-at
invariant-loop-at l = Numbered (name_in l.bytes l.tree) (found l.names) l.at l.next l.of.items
