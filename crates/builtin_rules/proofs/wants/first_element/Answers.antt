use Rattle.unit_read.specs.Subjects.{unit_of}
use Rattle.rule_words.specs.Scenes.{sight, told_by, said}
use Rattle.rule_words.specs.Wishes.{before}
use Rattle.builtin_rules.specs.Wants.{element_wants}
use Rattle.rule_words.proofs.BindLaws.{says_bind}
use Rattle.builtin_rules.proofs.wants.first_element.Goals as goal

pub returns-in-Is-clause-is : goal.returns-in-Is-clause-is
returns-in-Is-clause-is c =
    let s = c.args.s.now in
    let u = unit_of c.args.u.now in
    says_bind (sight s) (before u c.args.block c.args.around.now 1) (element_wants u c.args.block c.args.around.now c.args.slot) (said s c.in-Is.first) (told_by (said s) c.element_wants.result)
    c.in-Is.ensures.is c.element_wants.ensures.is
