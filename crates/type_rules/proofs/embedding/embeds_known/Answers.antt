use Rattle.std.proofs.Common.{option_map, sym, ◌∙◌, rules}
use Rattle.mark_walk.specs.Telling.{Says}
use Rattle.mark_walk.proofs.TellLaws.{told_bind}
use Rattle.unit_read.specs.Subjects.{unit_of}
use Rattle.rule_words.specs.Asking.{under_ask}
use Rattle.rule_words.specs.Scenes.{sight, said, type_in}
use Rattle.type_rules.specs.Interfaces.{embeds_type}
use Rattle.rule_words.proofs.BindLaws.{waits_at}
use Rattle.type_rules.proofs.embedding.embeds_known.Goals as goal

pub returns-in-Is-clause-is : goal.returns-in-Is-clause-is
returns-in-Is-clause-is c =
    let s = c.args.s.now in
    c.embeds_type.ensures.is
    ∙ sym (told_bind (sight s) (under_ask (unit_of c.args.u.now) (type_in s c.args.x.of)) (λ under. embeds_type (said s c.args.m) under)
    (Says (option_map (type_in s) c.in-Is.under)) (sym c.in-Is.ensures.is))

pub returns-in-Wait-clause-is : goal.returns-in-Wait-clause-is
returns-in-Wait-clause-is c = search (rules, waits_at, c.in-Wait.ensures.is)
