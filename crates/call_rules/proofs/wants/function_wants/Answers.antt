use Rattle.std.proofs.Common.{Bool, option_map, sym, ap, ◌∙◌}
use Rattle.mark_walk.specs.Telling.{Says, Waits, tell}
use Rattle.mark_walk.proofs.TellLaws.{told_bind}
use Rattle.unit_read.specs.Subjects.{unit_of}
use Rattle.builtin_rules.specs.Named.{is_spread}
use Rattle.rule_words.specs.Asking.{mark_under}
use Rattle.rule_words.specs.Scenes.{sight, told_by, type_in, said}
use Rattle.call_rules.specs.Wants.{argument_by}
use Rattle.call_rules.proofs.wants.function_wants.Goals as goal

pub returns-in-Is-clause-is : goal.returns-in-Is-clause-is
returns-in-Is-clause-is c =
    let s = c.args.s.now in
    let u = unit_of c.args.u.now in
    c.argument_by.ensures.is
    ∙ ap (λ (spread : Bool). tell (sight s) (argument_by spread c.args.slot (option_map (type_in s) c.in-Is.of))) c.is_spread.ensures
    ∙ sym (told_bind (sight s) (mark_under u (said s c.args.f)) (argument_by (is_spread c.args.around.now.kind) c.args.slot) (Says (option_map (type_in s) c.in-Is.of))
    (sym c.mark_under.ensures.is ∙ ap (told_by (option_map (type_in s))) c.in-Is.is))

pub returns-in-Wait-clause-is : goal.returns-in-Wait-clause-is
returns-in-Wait-clause-is c =
    let s = c.args.s.now in
    let u = unit_of c.args.u.now in
    sym (told_bind (sight s) (mark_under u (said s c.args.f)) (argument_by (is_spread c.args.around.now.kind) c.args.slot) (Waits c.in-Wait.item)
    (sym c.mark_under.ensures.is ∙ ap (told_by (option_map (type_in s))) c.in-Wait.is))
