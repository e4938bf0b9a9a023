use Rattle.std.proofs.Common.{◌<◌, Some, arith, ◌∙◌, ap, sym, length-take-le}
use Rattle.go_lexeme.proofs.Items.{word_front_is, word_front_none}
use Rattle.go_lexeme.proofs.item.word_piece.Goals as goal

pub returns-then-size-eq0 : goal.returns-then-size-eq0
returns-then-size-eq0 c = record {
  some = omega arith;
  within = omega (arith, c.requires);
  is = word_front_none _ (c.word_size-size.ensures.longest 1 (omega arith) (omega (arith, c.requires))) (length-take-le 1 _ (omega (arith, c.requires)));
  longest = λ m longer within. c.word_size-size.ensures.longest m (omega arith) within;
}

pub returns-else-size-eq0 : goal.returns-else-size-eq0
returns-else-size-eq0 c = let some : 0 < c.word_size-size.result = omega arith in record {
  some = some;
  within = c.word_size-size.ensures.within;
  is = word_front_is _ (c.word_size-size.ensures.is some) ∙ ap Some (sym c.word_item.ensures);
  longest = c.word_size-size.ensures.longest;
}
