use Rattle.std.proofs.Common.{ap, rules}
use Rattle.rule_words.specs.Scenes.{sight}
use Rattle.mark_walk.specs.Telling.{Says}
use Rattle.unit_read.specs.Subjects.{unit_of}
use Rattle.rule_words.specs.Answers.{answer_in}
use Rattle.builtin_rules.specs.Builtin.{sized_by}
use Rattle.builtin_rules.specs.Quiet.{quiet_ask}
use Rattle.rule_words.proofs.BindLaws.{says_bind, waits_at}
use Rattle.builtin_rules.proofs.lengths.array_quiet.Goals as goal

pub returns-in-Is-clause-is : goal.returns-in-Is-clause-is
returns-in-Is-clause-is c =
    let s = c.args.s.now in
    says_bind (sight s) (quiet_ask (unit_of c.args.u.now) c.args.block c.args.file c.args.at) (sized_by c.args.n) c.in-Is.quiet (Says (answer_in s c.sized.result)) c.in-Is.ensures
    (ap Says c.sized.ensures.is)

pub returns-in-Wait-clause-is : goal.returns-in-Wait-clause-is
returns-in-Wait-clause-is c = search (rules, waits_at, c.in-Wait.ensures)
