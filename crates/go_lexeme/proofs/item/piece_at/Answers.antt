use Rattle.std.proofs.Common.{sym, ◌∙◌}
use Rattle.go_lexeme.proofs.Items.{blank_begins, class_piece_begins, mark_begins, word_begins}
use Rattle.go_lexeme.proofs.item.piece_at.Goals as goal

pub returns-then-is_blank : goal.returns-then-is_blank
returns-then-is_blank c = blank_begins _ c.requires (sym c.is_blank.ensures ∙ c.if-is_blank.true)

pub returns-then-is_operator : goal.returns-then-is_operator
returns-then-is_operator c = mark_begins _ _ _ c.class_at-class.ensures.class (sym c.is_operator.ensures ∙ c.if-is_operator.true) c.mark_at.ensures

pub returns-then-is_word_class : goal.returns-then-is_word_class
returns-then-is_word_class c = word_begins _ _ _ c.class_at-class.ensures.class (sym c.is_word_class.ensures ∙ c.if-is_word_class.true) c.word_piece.ensures

pub returns-else-is_word_class : goal.returns-else-is_word_class
returns-else-is_word_class c = class_piece_begins _ _ _ c.class_at-class.ensures.class (sym c.is_operator.ensures ∙ c.if-is_operator.false) (sym c.is_word_class.ensures ∙ c.if-is_word_class.false) c.class_at-class.ensures.within c.class_piece.ensures
