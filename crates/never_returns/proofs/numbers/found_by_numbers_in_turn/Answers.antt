use Rattle.least.specs.Tables.{home}
use Rattle.least.specs.Numbered.{by_number}
use Rattle.least.proofs.Gluing.{glued}
use Rattle.never_returns.specs.Admits.{Admits, Has}
use Rattle.never_returns.proofs.AdmitsLemmas.{local}
use Rattle.never_returns.proofs.NumberLemmas.{by_functions}
use Rattle.never_returns.proofs.numbers.found_by_numbers_in_turn.Goals as goal

pub returns : goal.returns
returns c env rank listed bodies given number name files functions marks see order are found handed =
    glued home (Has env) (Admits listed bodies) rank given (λ p m. by_number (number p) (marks p) m) (local (Has env) listed bodies see) order
    (record {
      found_in = λ p. by_functions listed bodies p (given p) (number p) (name p) (files p) (functions p) (marks p) (are p) (found p);
      handed = handed;
    })
