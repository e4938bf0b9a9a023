use Rattle.std.proofs.Common.{sym, ◌∙◌}
use Rattle.mark_walk.specs.Telling.{Says, Waits}
use Rattle.mark_walk.proofs.TellLaws.{told_bind}
use Rattle.unit_read.specs.Subjects.{unit_of}
use Rattle.rule_words.specs.Scenes.{sight, said}
use Rattle.rule_words.specs.Wishes.{before}
use Rattle.op_rules.specs.Wants.{whole_handed, handing_on}
use Rattle.op_rules.proofs.wants.handing_on.Goals as goal

pub returns-in-Is-clause-is : goal.returns-in-Is-clause-is
unfolding handing_on
returns-in-Is-clause-is c =
    let s = c.args.s.now in
    let u = unit_of c.args.u.now in
    c.whole_handed.ensures.is ∙ sym (told_bind (sight s) (before u c.args.block c.args.around.now 0) (whole_handed u c.args.block c.args.p c.args.demand) (Says (said s c.in-Is.own)) (sym c.in-Is.ensures.is))

pub returns-in-Wait-clause-is : goal.returns-in-Wait-clause-is
unfolding handing_on
returns-in-Wait-clause-is c =
    let s = c.args.s.now in
    let u = unit_of c.args.u.now in
    sym (told_bind (sight s) (before u c.args.block c.args.around.now 0) (whole_handed u c.args.block c.args.p c.args.demand) (Waits c.in-Wait.item) (sym c.in-Wait.ensures.is))
