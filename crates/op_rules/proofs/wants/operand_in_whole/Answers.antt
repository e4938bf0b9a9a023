use Rattle.std.proofs.Common.{sym, ap, ◌∙◌}
use Rattle.mark_walk.specs.Telling.{Says, Waits}
use Rattle.mark_walk.proofs.TellLaws.{told_bind}
use Rattle.unit_read.specs.Subjects.{unit_of}
use Rattle.rule_words.specs.Scenes.{sight, told_by, said}
use Rattle.op_rules.specs.Wants.{whole, operand_with, operand_in_whole}
use Rattle.op_rules.proofs.wants.operand_in_whole.Goals as goal

pub returns-in-Is-clause-is : goal.returns-in-Is-clause-is
unfolding operand_in_whole
returns-in-Is-clause-is c =
    let s = c.args.s.now in
    let u = unit_of c.args.u.now in
    c.operand_with.ensures.is ∙ sym (told_bind (sight s) (whole u c.args.block c.args.p) (operand_with u c.args.op (said s c.args.own) (said s c.args.beside)) (Says (said s c.in-Is.w)) (sym c.whole.ensures.is ∙ ap (told_by (said s)) c.in-Is.is))

pub returns-in-Wait-clause-is : goal.returns-in-Wait-clause-is
unfolding operand_in_whole
returns-in-Wait-clause-is c =
    let s = c.args.s.now in
    let u = unit_of c.args.u.now in
    sym (told_bind (sight s) (whole u c.args.block c.args.p) (operand_with u c.args.op (said s c.args.own) (said s c.args.beside)) (Waits c.in-Wait.item) (sym c.whole.ensures.is ∙ ap (told_by (said s)) c.in-Wait.is))
