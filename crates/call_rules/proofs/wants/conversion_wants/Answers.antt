use Rattle.std.proofs.Common.{sym, ◌∙◌}
use Rattle.mark_walk.specs.Telling.{Says}
use Rattle.mark_walk.proofs.TellLaws.{told_bind}
use Rattle.unit_read.specs.Subjects.{unit_of}
use Rattle.rule_words.specs.Scenes.{sight, said, type_in}
use Rattle.rule_words.specs.Wishes.{before}
use Rattle.call_rules.specs.Wants.{converted_over, conversion_wants}
use Rattle.call_rules.proofs.wants.conversion_wants.Goals as goal

pub returns-in-Is-clause-is : goal.returns-in-Is-clause-is
unfolding conversion_wants
returns-in-Is-clause-is c =
    let s = c.args.s.now in
    let u = unit_of c.args.u.now in
    c.converted_over.ensures.is
    ∙ sym (told_bind (sight s) (before u c.args.block c.args.around.now c.args.slot) (converted_over u (type_in s c.args.to)) (Says (said s c.in-Is.own)) (sym c.in-Is.ensures.is))
