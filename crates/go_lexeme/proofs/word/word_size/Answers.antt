use Rattle.std.proofs.Common.{sym, ◌∙◌, ap, subst, arith, ◌<◌}
use Rattle.go_tree.specs.Lexeme.{is_letter}
use Rattle.go_lexeme.proofs.Words.{word_of_text, ascii_word_is, ascii_no_word}
use Rattle.go_lexeme.proofs.word.word_size.Goals as goal

pub returns-then-byte_at-ge128 : goal.returns-then-byte_at-ge128
returns-then-byte_at-ge128 c = word_of_text _ _ _ c.loose_text.ensures c.text_word_size.ensures

pub returns-then-is_letter : goal.returns-then-is_letter
returns-then-is_letter c =
    ascii_word_is _ _ c.word_run-size.ensures (subst (λ b. b < 128) c.byte_at.ensures (omega arith))
    (ap is_letter (sym c.byte_at-else-byte_at-ge128.ensures) ∙ sym c.is_letter.ensures ∙ c.if-is_letter.true)

pub returns-else-is_letter : goal.returns-else-is_letter
returns-else-is_letter c =
    ascii_no_word _ _ c.word_run-size.ensures (subst (λ b. b < 128) c.byte_at.ensures (omega arith))
    (ap is_letter (sym c.byte_at-else-byte_at-ge128.ensures) ∙ sym c.is_letter.ensures ∙ c.if-is_letter.false)
