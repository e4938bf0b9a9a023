use Rattle.never_returns.proofs.NumberLemmas.{by_functions}
use Rattle.never_returns.proofs.numbers.found_by_numbers.Goals as goal

pub returns : goal.returns
returns c listed bodies p given number name files functions marks are l = by_functions listed bodies p given number name files functions marks are l
