use Rattle.std.proofs.Common.{option_map}
use Rattle.unit_read.specs.Subjects.{unit_of}
use Rattle.rule_words.specs.Scenes.{sight, told_by, said, type_in}
use Rattle.rule_words.specs.Wishes.{before}
use Rattle.builtin_rules.specs.Wants.{spread_own}
use Rattle.rule_words.proofs.BindLaws.{says_bind}
use Rattle.builtin_rules.proofs.wants.spread_over.Goals as goal

pub returns-in-Is-clause-is : goal.returns-in-Is-clause-is
returns-in-Is-clause-is c =
    let s = c.args.s.now in
    let u = unit_of c.args.u.now in
    says_bind (sight s) (before u c.args.block c.args.around.now c.args.slot) (spread_own u (option_map (type_in s) c.args.under)) (said s c.in-Is.own) (told_by (said s) c.spread_own.result)
    c.in-Is.ensures.is c.spread_own.ensures.is
