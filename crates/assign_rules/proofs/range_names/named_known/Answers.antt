use Rattle.rule_words.specs.Scenes.{sight}
use Rattle.unit_read.specs.Subjects.{unit_of}
use Rattle.rule_words.specs.Steps.{step_in}
use Rattle.rule_words.specs.Good.{known_of}
use Rattle.assign_rules.specs.InCode.{ranging_in}
use Rattle.assign_rules.specs.Ranging.{ranging_ask, named_told}
use Rattle.rule_words.proofs.BindLaws.{says_bind, waits_bind}
use Rattle.assign_rules.proofs.range_names.named_known.Goals as goal

pub returns-in-Is-clause-is : goal.returns-in-Is-clause-is
returns-in-Is-clause-is c =
    let s = c.args.s.now in
    let u = unit_of c.args.u.now in
    says_bind (sight s) (ranging_ask u (known_of s c.args.x)) (named_told c.args.i) (ranging_in s c.in-Is.told) (step_in s c.named_told.result) c.in-Is.ensures.is c.named_told.ensures.is

pub returns-in-Wait-clause-is : goal.returns-in-Wait-clause-is
returns-in-Wait-clause-is c =
    let s = c.args.s.now in
    let u = unit_of c.args.u.now in
    waits_bind (sight s) (ranging_ask u (known_of s c.args.x)) (named_told c.args.i) c.in-Wait.item c.in-Wait.ensures.is
