use Rattle.std.proofs.Common.{option_map}
use Rattle.unit_read.specs.Subjects.{unit_of}
use Rattle.rule_words.specs.Asking.{under_ask}
use Rattle.rule_words.specs.Scenes.{sight, told_by, type_in}
use Rattle.assign_rules.specs.InCode.{ranging_in}
use Rattle.assign_rules.specs.Ranging.{ranging_told, ranging_ask}
use Rattle.rule_words.proofs.BindLaws.{says_bind, waits_bind}
use Rattle.assign_rules.proofs.ranging.ranging_of.Goals as goal

pub returns-in-Is-clause-is : goal.returns-in-Is-clause-is
unfolding ranging_ask
returns-in-Is-clause-is c =
    let s = c.args.s.now in
    let u = unit_of c.args.u.now in
    says_bind (sight s) (under_ask u (type_in s c.args.x.last)) (ranging_told u) (option_map (type_in s) c.in-Is.under) (told_by (ranging_in s) c.ranging_told.result) c.in-Is.ensures.is c.ranging_told.ensures.is

pub returns-in-Wait-clause-is : goal.returns-in-Wait-clause-is
unfolding ranging_ask
returns-in-Wait-clause-is c =
    let s = c.args.s.now in
    let u = unit_of c.args.u.now in
    waits_bind (sight s) (under_ask u (type_in s c.args.x.last)) (ranging_told u) c.in-Wait.item c.in-Wait.ensures.is
