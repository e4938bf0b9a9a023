use Rattle.std.proofs.Common.{option_map, sym, ap, ◌∙◌}
use Rattle.mark_walk.specs.Asks.{done}
use Rattle.mark_walk.specs.Telling.{Says, Waits}
use Rattle.mark_walk.proofs.TellLaws.{told_bind}
use Rattle.unit_read.specs.Subjects.{unit_of}
use Rattle.rule_words.specs.Asking.{under_ask}
use Rattle.rule_words.specs.Scenes.{sight, told_by, type_in}
use Rattle.rule_words.specs.Good.{known_of}
use Rattle.op_rules.specs.Placed.{overflowing}
use Rattle.op_rules.proofs.fitting.represented_in.Goals as goal

pub returns-in-Is-clause-is : goal.returns-in-Is-clause-is
returns-in-Is-clause-is c =
    let s = c.args.s.now in
    let u = unit_of c.args.u.now in
    ap Says c.overflowing.ensures.is
    ∙ sym (told_bind (sight s) (under_ask u (type_in s c.args.x.last)) (λ under. done (overflowing (known_of s c.args.x) c.args.c.now under)) (Says (option_map (type_in s) c.in-Is.under))
    (sym c.under_of.ensures.is ∙ ap (told_by (option_map (type_in s))) c.in-Is.is))

pub returns-in-Wait-clause-is : goal.returns-in-Wait-clause-is
returns-in-Wait-clause-is c =
    let s = c.args.s.now in
    let u = unit_of c.args.u.now in
    sym (told_bind (sight s) (under_ask u (type_in s c.args.x.last)) (λ under. done (overflowing (known_of s c.args.x) c.args.c.now under)) (Waits c.in-Wait.item)
    (sym c.under_of.ensures.is ∙ ap (told_by (option_map (type_in s))) c.in-Wait.is))
