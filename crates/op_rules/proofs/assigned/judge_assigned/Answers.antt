use Rattle.unit_read.specs.Subjects.{unit_of}
use Rattle.rule_words.specs.Scenes.{said, type_in}
use Rattle.rule_words.specs.Good.{known_of}
use Rattle.type_answers.proofs.ComingLaws.{bind_comes, bind_waits}
use Rattle.op_rules.specs.Placed.{represented, assigned_good}
use Rattle.op_rules.proofs.assigned.judge_assigned.Goals as goal

pub returns-in_ok-step-in-Is-clause-comes : goal.returns-in_ok-step-in-Is-clause-comes
returns-in_ok-step-in-Is-clause-comes c =
    let s = c.args.s.now in
    let u = unit_of c.args.u.now in
    let x = known_of s c.args.x in
    bind_comes c.args.u.now s (represented u x) (assigned_good u x (type_in s c.args.to)) (said s c.in-Is.good) c.in_ok-step-in-Is.step
    c.in-Is.ensures.is c.in_ok-step-in-Is.ensures.comes

pub returns-in-Wait-clause-comes : goal.returns-in-Wait-clause-comes
returns-in-Wait-clause-comes c =
    let s = c.args.s.now in
    let u = unit_of c.args.u.now in
    let x = known_of s c.args.x in
    bind_waits c.args.u.now s (represented u x) (assigned_good u x (type_in s c.args.to)) c.in-Wait.item c.in-Wait.ensures.is
