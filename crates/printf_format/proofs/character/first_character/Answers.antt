use Rattle.std.proofs.Common.{◌∙◌, sym, ap, length}
use Rattle.printf_format.proofs.FirstCharacters.{some_character, no_character}
use Rattle.printf_format.proofs.character.first_character.Goals as goal

pub returns-in-Some-clause-character : goal.returns-in-Some-clause-character
returns-in-Some-clause-character c = let step = c.in-Some.ensures.steps in some_character _ _ _ c.next.new.self.rest.now c.in-Some.code _ c.short_front.ensures c.text_front.ensures (sym c.chars.ensures.rest ∙ step.0) c.len_utf8.ensures.value

pub returns-in-None-clause-character : goal.returns-in-None-clause-character
returns-in-None-clause-character c = let step = c.in-None.ensures.steps in no_character _ _ _ c.requires c.short_front.ensures c.text_front.ensures (sym (ap length c.chars.ensures.rest) ∙ step.0.0)
