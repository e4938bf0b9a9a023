use Rattle.std.proofs.Common.{refl, ◌∙◌}
use Rattle.go_lexeme.proofs.Words.{word_flag}
use Rattle.go_lexeme.proofs.byte.is_word_byte.Goals as goal

pub returns : goal.returns
returns c = c.flag_of.ensures ∙ word_flag _ _ refl c.ranges.b.fits
