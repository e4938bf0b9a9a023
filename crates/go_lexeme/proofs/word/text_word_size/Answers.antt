use Rattle.std.proofs.Common.{sym, ◌∙◌, subst}
use Rattle.go_tree.specs.Word.{IsWordSize}
use Rattle.go_lexeme.proofs.Words.{word_begins, word_none}
use Rattle.go_lexeme.proofs.word.text_word_size.Goals as goal

pub returns-then-begins_with_letter : goal.returns-then-begins_with_letter
returns-then-begins_with_letter c = subst (IsWordSize _) (sym c.word_bytes.ensures) (word_begins _ c.utf8.text (sym c.begins_with_letter.ensures ∙ c.if-begins_with_letter.true))

pub returns-else-begins_with_letter : goal.returns-else-begins_with_letter
returns-else-begins_with_letter c = word_none _ c.utf8.text (sym c.begins_with_letter.ensures ∙ c.if-begins_with_letter.false)
