use Rattle.std.proofs.Common.{refl, rules}
use Rattle.rule_words.specs.Scenes.{sight}
use Rattle.unit_read.specs.Subjects.{unit_of}
use Rattle.mark_walk.specs.Telling.{Says}
use Rattle.std.specs.Prelude.{Some}
use Rattle.builtin_rules.specs.Quiet.{is_no_receive_ask, heard_whole}
use Rattle.rule_words.proofs.BindLaws.{says_bind, waits_at}
use Rattle.builtin_rules.proofs.quiet.receive_heard.Goals as goal

pub returns-in-Is : goal.returns-in-Is
returns-in-Is c = says_bind (sight c.args.s.now) (is_no_receive_ask (unit_of c.args.u.now) c.args.block c.args.n) heard_whole c.in-Is.quiet (Says (Some c.in-Is.quiet)) c.in-Is.ensures refl

pub returns-in-Wait : goal.returns-in-Wait
returns-in-Wait c = search (rules, waits_at, c.in-Wait.ensures)
