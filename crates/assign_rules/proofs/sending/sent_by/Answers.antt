use Rattle.std.proofs.Common.{option_map}
use Rattle.unit_read.specs.Subjects.{unit_of}
use Rattle.rule_words.specs.Asking.{mark_under}
use Rattle.rule_words.specs.Scenes.{sight, told_by, said, type_in}
use Rattle.assign_rules.specs.Sending.{sent_told}
use Rattle.rule_words.proofs.BindLaws.{says_bind, waits_bind}
use Rattle.assign_rules.proofs.sending.sent_by.Goals as goal

pub returns-in-Is-clause-is : goal.returns-in-Is-clause-is
returns-in-Is-clause-is c =
    let s = c.args.s.now in
    let u = unit_of c.args.u.now in
    says_bind (sight s) (mark_under u (said s c.args.m)) (sent_told u c.args.block c.args.n) (option_map (type_in s) c.in-Is.under) (told_by (said s) c.sent_told.result) c.in-Is.ensures.is c.sent_told.ensures.is

pub returns-in-Wait-clause-is : goal.returns-in-Wait-clause-is
returns-in-Wait-clause-is c =
    let s = c.args.s.now in
    let u = unit_of c.args.u.now in
    waits_bind (sight s) (mark_under u (said s c.args.m)) (sent_told u c.args.block c.args.n) c.in-Wait.item c.in-Wait.ensures.is
