use Rattle.std.proofs.Common.{sym, ap, ◌∙◌}
use Rattle.mark_walk.specs.Telling.{Says, Waits}
use Rattle.mark_walk.proofs.TellLaws.{told_bind}
use Rattle.unit_read.specs.Subjects.{unit_of}
use Rattle.rule_words.specs.Scenes.{sight, told_by, said}
use Rattle.op_rules.specs.Wants.{whole, handed_by, whole_handed}
use Rattle.op_rules.proofs.wants.whole_handed.Goals as goal

pub returns-in-Is-clause-is : goal.returns-in-Is-clause-is
unfolding whole_handed
returns-in-Is-clause-is c =
    let s = c.args.s.now in
    let u = unit_of c.args.u.now in
    ap Says c.unchecked_by.ensures.is ∙ sym (told_bind (sight s) (whole u c.args.block c.args.p) (handed_by c.args.demand (said s c.args.own)) (Says (said s c.in-Is.w)) (sym c.whole.ensures.is ∙ ap (told_by (said s)) c.in-Is.is))

pub returns-in-Wait-clause-is : goal.returns-in-Wait-clause-is
unfolding whole_handed
returns-in-Wait-clause-is c =
    let s = c.args.s.now in
    let u = unit_of c.args.u.now in
    sym (told_bind (sight s) (whole u c.args.block c.args.p) (handed_by c.args.demand (said s c.args.own)) (Waits c.in-Wait.item) (sym c.whole.ensures.is ∙ ap (told_by (said s)) c.in-Wait.is))
