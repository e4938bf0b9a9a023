use Rattle.std.proofs.Common.{sym, ◌∙◌}
use Rattle.mark_walk.specs.Telling.{Says, Waits}
use Rattle.mark_walk.proofs.TellLaws.{told_bind}
use Rattle.unit_read.specs.Subjects.{unit_of}
use Rattle.rule_words.specs.Scenes.{sight, said}
use Rattle.go_rules.specs.Stages.{wants_in, wished}
use Rattle.go_rules.proofs.wants.wants_of.Goals as goal

pub returns-in-Is-clause-is : goal.returns-in-Is-clause-is
returns-in-Is-clause-is c =
    let s = c.args.s.now in
    let u = unit_of c.args.u.now in
    c.wanted_mark.ensures.is ∙ sym (told_bind (sight s) (wants_in u c.args.block c.args.p c.args.around.now) wished (Says (said s c.in-Is.m)) (sym c.in-Is.ensures.is))

pub returns-in-Wait-clause-is : goal.returns-in-Wait-clause-is
returns-in-Wait-clause-is c =
    let s = c.args.s.now in
    let u = unit_of c.args.u.now in
    sym (told_bind (sight s) (wants_in u c.args.block c.args.p c.args.around.now) wished (Waits c.in-Wait.item) (sym c.in-Wait.ensures.is))
