use Rattle.unit_read.specs.Subjects.{unit_of}
use Rattle.rule_words.specs.Good.{known_of}
use Rattle.assign_rules.specs.InCode.{ranging_in}
use Rattle.assign_rules.specs.Ranging.{ranging_ask, operand_told}
use Rattle.type_answers.proofs.ComingLaws.{says_comes}
use Rattle.assign_rules.proofs.range_operand.operand_good.Goals as goal

pub returns-in_ok-step-in-Is-clause-comes : goal.returns-in_ok-step-in-Is-clause-comes
returns-in_ok-step-in-Is-clause-comes c =
    let s = c.args.s.now in
    let u = unit_of c.args.u.now in
    says_comes c.args.u.now s (ranging_ask u (known_of s c.args.x)) (operand_told u c.args.block c.args.file c.args.nodes.now c.args.around.now (known_of s c.args.x))
    (ranging_in s c.in-Is.told) c.in_ok-step-in-Is.step c.requires.scene c.in-Is.ensures.is c.in_ok-step-in-Is.ensures.comes
