use Rattle.std.proofs.Common.{◌≡◌, ◌<◌, ◌^◌, take}
use Rattle.printf_format.specs.Grammar.{decimal}
use Rattle.printf_format.proofs.grammar.decimal.Given as goal

abbrev pub invariant-loop-digit : goal.invariant-loop-digit
invariant-loop-digit l = record {
  value : l.number ≡ decimal (take l.digit-index l.digits);
  small : l.number < 10 ^ l.digit-index;
}
