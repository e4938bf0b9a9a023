use Rattle.std.proofs.Common.{sym, ◌∙◌}
use Rattle.go_lexeme.proofs.Words.{ascii_word}
use Rattle.go_lexeme.proofs.word.is_word_char.Goals as goal

pub returns-then-code-lt128 : goal.returns-then-code-lt128
returns-then-code-lt128 c = c.is_word_byte.ensures ∙ sym (ascii_word _ c.if-code-lt128.true)
