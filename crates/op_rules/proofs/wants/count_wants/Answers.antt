use Rattle.std.proofs.Common.{sym, ap, ◌∙◌}
use Rattle.mark_walk.specs.Telling.{Says, Waits}
use Rattle.mark_walk.proofs.TellLaws.{told_bind}
use Rattle.unit_read.specs.Subjects.{unit_of}
use Rattle.rule_words.specs.Scenes.{sight, said}
use Rattle.rule_words.specs.Wishes.{before}
use Rattle.op_rules.specs.Wants.{counted_by, count_wants}
use Rattle.op_rules.proofs.wants.count_wants.Goals as goal

pub returns-in-Is-clause-is : goal.returns-in-Is-clause-is
unfolding count_wants
returns-in-Is-clause-is c =
    let s = c.args.s.now in
    let u = unit_of c.args.u.now in
    ap Says c.count_by.ensures.is ∙ sym (told_bind (sight s) (before u c.args.block c.args.around.now 1) (counted_by) (Says (said s c.in-Is.own)) (sym c.in-Is.ensures.is))

pub returns-in-Wait-clause-is : goal.returns-in-Wait-clause-is
unfolding count_wants
returns-in-Wait-clause-is c =
    let s = c.args.s.now in
    let u = unit_of c.args.u.now in
    sym (told_bind (sight s) (before u c.args.block c.args.around.now 1) (counted_by) (Waits c.in-Wait.item) (sym c.in-Wait.ensures.is))
