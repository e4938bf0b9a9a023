use Rattle.std.proofs.Common.{option_map}
use Rattle.unit_read.specs.Subjects.{unit_of}
use Rattle.rule_words.specs.Asking.{under_ask}
use Rattle.rule_words.specs.Scenes.{said, type_in}
use Rattle.rule_words.specs.Good.{known_of}
use Rattle.type_answers.proofs.ComingLaws.{bind_comes, bind_waits}
use Rattle.op_rules.specs.Placed.{assigned_to}
use Rattle.op_rules.proofs.assigned.assigned_good.Goals as goal

pub returns-in_ok-step-in-Is-clause-comes : goal.returns-in_ok-step-in-Is-clause-comes
returns-in_ok-step-in-Is-clause-comes c =
    let s = c.args.s.now in
    let to = type_in s c.args.to in
    bind_comes c.args.u.now s (under_ask (unit_of c.args.u.now) to) (assigned_to (known_of s c.args.x) to (said s c.args.good))
    (option_map (type_in s) c.in-Is.under) c.in_ok-step-in-Is.step c.in-Is.ensures.is c.in_ok-step-in-Is.ensures.comes

pub returns-in-Wait-clause-comes : goal.returns-in-Wait-clause-comes
returns-in-Wait-clause-comes c =
    let s = c.args.s.now in
    let to = type_in s c.args.to in
    bind_waits c.args.u.now s (under_ask (unit_of c.args.u.now) to) (assigned_to (known_of s c.args.x) to (said s c.args.good)) c.in-Wait.item
    c.in-Wait.ensures.is
