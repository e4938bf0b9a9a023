use Rattle.std.proofs.Common.{option_map, sym, ap, ◌∙◌}
use Rattle.mark_walk.specs.Telling.{Says, Waits}
use Rattle.mark_walk.proofs.TellLaws.{told_bind}
use Rattle.unit_read.specs.Subjects.{unit_of}
use Rattle.rule_words.specs.Asking.{under_ask}
use Rattle.rule_words.specs.Scenes.{sight, told_by, type_in, said}
use Rattle.call_rules.specs.Wants.{converted_in}
use Rattle.call_rules.proofs.wants.converted_over.Goals as goal

pub returns-in-Is-clause-is : goal.returns-in-Is-clause-is
returns-in-Is-clause-is c =
    let s = c.args.s.now in
    let u = unit_of c.args.u.now in
    c.converted_in.ensures.is
    ∙ sym (told_bind (sight s) (under_ask u (type_in s c.args.to)) (converted_in (type_in s c.args.to) (said s c.args.own)) (Says (option_map (type_in s) c.in-Is.under))
    (sym c.under_of.ensures.is ∙ ap (told_by (option_map (type_in s))) c.in-Is.is))

pub returns-in-Wait-clause-is : goal.returns-in-Wait-clause-is
returns-in-Wait-clause-is c =
    let s = c.args.s.now in
    let u = unit_of c.args.u.now in
    sym (told_bind (sight s) (under_ask u (type_in s c.args.to)) (converted_in (type_in s c.args.to) (said s c.args.own)) (Waits c.in-Wait.item)
    (sym c.under_of.ensures.is ∙ ap (told_by (option_map (type_in s))) c.in-Wait.is))
