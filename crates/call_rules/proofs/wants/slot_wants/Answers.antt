use Rattle.std.proofs.Common.{sym, ◌∙◌}
use Rattle.mark_walk.specs.Telling.{Says}
use Rattle.mark_walk.proofs.TellLaws.{told_bind}
use Rattle.unit_read.specs.Subjects.{unit_of}
use Rattle.rule_words.specs.Scenes.{sight, said}
use Rattle.rule_words.specs.Wishes.{before}
use Rattle.call_rules.specs.Wants.{called_wants, slot_wants}
use Rattle.call_rules.proofs.wants.slot_wants.Goals as goal

pub returns-in-Is-clause-is : goal.returns-in-Is-clause-is
unfolding slot_wants
returns-in-Is-clause-is c =
    let s = c.args.s.now in
    let u = unit_of c.args.u.now in
    c.called_wants.ensures.is
    ∙ sym (told_bind (sight s) (before u c.args.block c.args.around.now 0) (called_wants u c.args.block c.args.around.now c.args.slot) (Says (said s c.in-Is.f)) (sym c.in-Is.ensures.is))
