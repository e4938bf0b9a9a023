use Rattle.std.proofs.Common.{◌-◌, sym, ap, ◌∙◌}
use Rattle.mark_walk.specs.Telling.{Says, Waits, tell}
use Rattle.mark_walk.proofs.TellLaws.{told_bind}
use Rattle.unit_read.specs.Subjects.{unit_of}
use Rattle.rule_words.specs.Scenes.{sight, said}
use Rattle.rule_words.specs.Wishes.{before}
use Rattle.op_rules.specs.Wants.{operand_in_whole, operand_beside}
use Rattle.op_rules.proofs.wants.operand_beside.Goals as goal

pub returns-in-Is-clause-is : goal.returns-in-Is-clause-is
unfolding operand_beside
returns-in-Is-clause-is c =
    let s = c.args.s.now in
    let u = unit_of c.args.u.now in
    let told = ap (λ k. tell (sight s) (before u c.args.block c.args.around.now k)) (sym c.other_slot-slot.ensures) ∙ sym c.in-Is.ensures.is in
    c.operand_in_whole.ensures.is ∙ sym (told_bind (sight s) (before u c.args.block c.args.around.now (1 - c.args.p.slot))
    (operand_in_whole u c.args.block c.args.p c.args.op (said s c.args.own)) (Says (said s c.in-Is.beside)) told)

pub returns-in-Wait-clause-is : goal.returns-in-Wait-clause-is
unfolding operand_beside
returns-in-Wait-clause-is c =
    let s = c.args.s.now in
    let u = unit_of c.args.u.now in
    let told = ap (λ k. tell (sight s) (before u c.args.block c.args.around.now k)) (sym c.other_slot-slot.ensures) ∙ sym c.in-Wait.ensures.is in
    sym (told_bind (sight s) (before u c.args.block c.args.around.now (1 - c.args.p.slot))
    (operand_in_whole u c.args.block c.args.p c.args.op (said s c.args.own)) (Waits c.in-Wait.item) told)
