use Rattle.std.proofs.Common.{option_map, rules}
use Rattle.mark_walk.specs.Telling.{Says}
use Rattle.unit_read.specs.Subjects.{unit_of}
use Rattle.rule_words.specs.Asking.{mark_under}
use Rattle.rule_words.specs.Scenes.{sight, said, type_in}
use Rattle.builtin_rules.specs.Wants.{key_by}
use Rattle.rule_words.proofs.BindLaws.{says_bind, waits_at}
use Rattle.builtin_rules.proofs.wants.key_over.Goals as goal

pub returns-in-Is-clause-is : goal.returns-in-Is-clause-is
returns-in-Is-clause-is c =
    let s = c.args.s.now in
    let u = unit_of c.args.u.now in
    says_bind (sight s) (mark_under u (said s c.args.first)) key_by (option_map (type_in s) c.in-Is.under) (Says (said s c.key_by.result)) c.in-Is.ensures.is c.key_by.ensures.is

pub returns-in-Wait-clause-is : goal.returns-in-Wait-clause-is
returns-in-Wait-clause-is c = search (rules, waits_at, c.in-Wait.ensures.is)
