use Rattle.std.proofs.Common.{arith, sym, ◌∙◌}
use Rattle.go_lexeme.proofs.Words.{word_turn, word_stop, word_end, utf8_past, word_bytes_within}
use Rattle.go_lexeme.proofs.word.word_bytes.Goals as goal

pub loop-c-preserved : goal.loop-c-preserved
loop-c-preserved c = let step = c.in-Some.ensures.steps in record {
  utf8 = utf8_past _ _ _ c.loop-c.invariant.utf8 step.0;
  size = word_turn _ _ _ _ _ _ c.loop-c.invariant.utf8 step.0 (sym c.is_word_char.ensures ∙ c.if-not-is_word_char.false) c.len_utf8-size.ensures.value c.loop-c.invariant.size;
}

pub overflow_add-size : goal.overflow_add-size
overflow_add-size c = let step = c.in-Some.ensures.steps in
    let turn = word_turn _ _ _ _ _ _ c.loop-c.invariant.utf8 step.0 (sym c.is_word_char.ensures ∙ c.if-not-is_word_char.false) c.len_utf8-size.ensures.value c.loop-c.invariant.size in
    omega (arith, turn, word_bytes_within _ c.utf8.text)

pub returns-then-not-is_word_char : goal.returns-then-not-is_word_char
returns-then-not-is_word_char c = let step = c.in-Some.ensures.steps in
    word_stop _ _ _ _ _ c.loop-c.invariant.utf8 step.0 (sym c.is_word_char.ensures ∙ c.if-not-is_word_char.true) c.loop-c.invariant.size

pub returns : goal.returns
returns c = word_end _ _ _ c.in-None.ensures.steps.0.0 c.loop-c.invariant.size
