use Rattle.std.proofs.Common.{ap, rules}
use Rattle.rule_words.specs.Scenes.{sight}
use Rattle.mark_walk.specs.Telling.{Says}
use Rattle.unit_read.specs.Subjects.{unit_of}
use Rattle.builtin_rules.specs.Quiet.{is_no_call_ask, unless_loud}
use Rattle.rule_words.proofs.BindLaws.{says_bind, waits_at}
use Rattle.builtin_rules.proofs.quiet.call_heard.Goals as goal

pub returns-in-Is : goal.returns-in-Is
returns-in-Is c =
    says_bind (sight c.args.s.now) (is_no_call_ask (unit_of c.args.u.now) c.args.block c.args.n c.args.node.now) unless_loud c.in-Is.quiet (Says c.unless_loud.result) c.in-Is.ensures
    (ap Says c.unless_loud.ensures)

pub returns-in-Wait : goal.returns-in-Wait
returns-in-Wait c = search (rules, waits_at, c.in-Wait.ensures)
