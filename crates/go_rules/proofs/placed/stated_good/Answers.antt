use Rattle.unit_read.specs.Subjects.{unit_of}
use Rattle.rule_words.specs.Good.{known_of}
use Rattle.go_rules.specs.Stages.{stated_good}
use Rattle.go_rules.proofs.placed.stated_good.Goals as goal

pub returns-clause-comes : goal.returns-clause-comes
returns-clause-comes c =
    let s = c.args.s.now in
    let u = c.args.u.now in
    c.in_brief.ensures.comes u s (stated_good (unit_of u) c.args.block c.args.at c.args.p c.args.around.now c.args.placing (known_of s c.args.x)) c.in_ok-step.ensures.comes

pub returns-clause-over : goal.returns-clause-over
returns-clause-over c = c.in_brief.ensures.over c.args.s.now c.in_ok-step.ensures.over
