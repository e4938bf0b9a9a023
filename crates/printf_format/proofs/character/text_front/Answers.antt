use Rattle.std.proofs.Common.{◌∙◌, ap, take}
use Rattle.printf_format.proofs.FirstCharacters.{longest_front}
use Rattle.printf_format.proofs.character.text_front.Goals as goal

pub returns-in-Err : goal.returns-in-Err
returns-in-Err c = longest_front _ _ _ c.in-Err.ensures.cases.1 (c.from_utf8_unchecked.ensures ∙ ap (λ n. take n c.args.front.now) c.valid_up_to.ensures)
