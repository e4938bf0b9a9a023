use Rattle.std.proofs.Common.{option_map, sym, ap, ◌∙◌, rules}
use Rattle.mark_walk.specs.Telling.{Says}
use Rattle.mark_walk.proofs.TellLaws.{told_bind}
use Rattle.unit_read.specs.Subjects.{unit_of}
use Rattle.rule_words.specs.Asking.{under_ask}
use Rattle.rule_words.specs.Scenes.{sight, told_by, type_in}
use Rattle.literal_rules.specs.Shapes.{literal_told}
use Rattle.rule_words.proofs.BindLaws.{waits_at}
use Rattle.literal_rules.proofs.braces.literal_by.Goals as goal

pub returns-in-Is-clause-is : goal.returns-in-Is-clause-is
returns-in-Is-clause-is c =
    let s = c.args.s.now in
    let u = unit_of c.args.u.now in
    ap Says c.literal_told.ensures.is
    ∙ sym (told_bind (sight s) (under_ask u (type_in s c.args.base)) (literal_told (type_in s c.args.of)) (Says (option_map (type_in s) c.in-Is.under))
    (sym c.under_of.ensures.is ∙ ap (told_by (option_map (type_in s))) c.in-Is.is))

pub returns-in-Wait-clause-is : goal.returns-in-Wait-clause-is
returns-in-Wait-clause-is c = search (rules, waits_at, c.in-Wait.ensures.is)
