use Rattle.std.proofs.Common.{sym, ap, ◌∙◌}
use Rattle.mark_walk.specs.Telling.{Says, Waits}
use Rattle.mark_walk.proofs.TellLaws.{told_bind}
use Rattle.typed_marks.specs.declared.item.Stage.TheVariants as stage
use Rattle.unit_read.specs.Subjects.{unit_of}
use Rattle.rule_words.specs.Asking.{mark_ask}
use Rattle.rule_words.specs.Scenes.{sight, said}
use Rattle.primary_rules.specs.Wants.{paren_wanted, paren_wants}
use Rattle.primary_rules.proofs.wants.paren_wants.Goals as goal

pub returns-in-Is-clause-is : goal.returns-in-Is-clause-is
unfolding paren_wants
returns-in-Is-clause-is c =
    let s = c.args.s.now in
    let u = unit_of c.args.u.now in
    c.paren_wanted.ensures.is
    ∙ sym (told_bind (sight s) (mark_ask u stage.Wanted c.args.block c.args.p.around) (paren_wanted u c.args.block c.args.p c.args.around.now) (Says (said s c.in-Is.m)) (sym c.in-Is.ensures.is))

pub returns-in-Wait-clause-is : goal.returns-in-Wait-clause-is
unfolding paren_wants
returns-in-Wait-clause-is c =
    let s = c.args.s.now in
    let u = unit_of c.args.u.now in
    sym (told_bind (sight s) (mark_ask u stage.Wanted c.args.block c.args.p.around) (paren_wanted u c.args.block c.args.p c.args.around.now) (Waits c.in-Wait.item) (sym c.in-Wait.ensures.is))
