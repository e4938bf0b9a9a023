use Rattle.std.proofs.Common.{◌∙◌, ap, take}
use Rattle.go_lexeme.proofs.Words.{loose_whole, loose_front}
use Rattle.go_lexeme.proofs.word.loose_text.Goals as goal

pub returns-in-Ok : goal.returns-in-Ok
returns-in-Ok c = loose_whole _ _ _ c.loose_run.ensures c.in-Ok.ensures.cases.0

pub returns-in-Err : goal.returns-in-Err
returns-in-Err c = loose_front _ _ _ _ c.loose_run.ensures c.in-Err.ensures.cases.1 (c.from_utf8_unchecked.ensures ∙ ap (λ k. take k (take c.loose_run.result c.args.rest.now)) c.valid_up_to.ensures)
