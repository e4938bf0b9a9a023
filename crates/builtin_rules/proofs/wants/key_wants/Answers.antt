use Rattle.unit_read.specs.Subjects.{unit_of}
use Rattle.rule_words.specs.Scenes.{sight, told_by, said}
use Rattle.rule_words.specs.Wishes.{before}
use Rattle.builtin_rules.specs.Wants.{key_over}
use Rattle.rule_words.proofs.BindLaws.{says_bind}
use Rattle.builtin_rules.proofs.wants.key_wants.Goals as goal

pub returns-in-Is-clause-is : goal.returns-in-Is-clause-is
returns-in-Is-clause-is c =
    let s = c.args.s.now in
    let u = unit_of c.args.u.now in
    says_bind (sight s) (before u c.args.block c.args.around.now 1) (key_over u) (said s c.in-Is.first) (told_by (said s) c.key_over.result) c.in-Is.ensures.is c.key_over.ensures.is
