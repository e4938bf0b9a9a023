use Rattle.printf_format.proofs.Digits.{run_digits}
use Rattle.printf_format.proofs.grammar.bracketed.Goals as goal

pub decimal-requires-clause-digits : goal.decimal-requires-clause-digits
decimal-requires-clause-digits c = run_digits _ _ _ c.requires.digits
