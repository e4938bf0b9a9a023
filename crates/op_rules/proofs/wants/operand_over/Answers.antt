use Rattle.std.proofs.Common.{option_map, sym, ap, ◌∙◌}
use Rattle.mark_walk.specs.Telling.{Says, Waits}
use Rattle.mark_walk.proofs.TellLaws.{told_bind}
use Rattle.unit_read.specs.Subjects.{unit_of}
use Rattle.rule_words.specs.Asking.{mark_under}
use Rattle.rule_words.specs.Scenes.{sight, told_by, said, type_in}
use Rattle.op_rules.specs.Wants.{operand_by, operand_over}
use Rattle.op_rules.proofs.wants.operand_over.Goals as goal

pub returns-in-Is-clause-is : goal.returns-in-Is-clause-is
unfolding operand_over
returns-in-Is-clause-is c =
    let s = c.args.s.now in
    let u = unit_of c.args.u.now in
    ap Says c.operand_in.ensures.is ∙ sym (told_bind (sight s) (mark_under u (said s c.args.beside)) (operand_by c.args.op (said s c.args.own) (said s c.args.beside) (said s c.args.w)) (Says (option_map (type_in s) c.in-Is.under)) (sym c.mark_under.ensures.is ∙ ap (told_by (option_map (type_in s))) c.in-Is.is))

pub returns-in-Wait-clause-is : goal.returns-in-Wait-clause-is
unfolding operand_over
returns-in-Wait-clause-is c =
    let s = c.args.s.now in
    let u = unit_of c.args.u.now in
    sym (told_bind (sight s) (mark_under u (said s c.args.beside)) (operand_by c.args.op (said s c.args.own) (said s c.args.beside) (said s c.args.w)) (Waits c.in-Wait.item) (sym c.mark_under.ensures.is ∙ ap (told_by (option_map (type_in s))) c.in-Wait.is))
