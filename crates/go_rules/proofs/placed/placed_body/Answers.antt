use Rattle.unit_read.specs.Subjects.{unit_of}
use Rattle.rule_words.specs.Scenes.{said}
use Rattle.go_rules.specs.Stages.{placed_body}
use Rattle.go_rules.proofs.placed.placed_body.Goals as goal

pub returns-clause-comes : goal.returns-clause-comes
returns-clause-comes c =
    let s = c.args.s.now in
    let u = c.args.u.now in
    c.in_brief.ensures.comes u s (placed_body (unit_of u) (said s c.args.j)) c.in_ok-step.ensures.comes

pub returns-clause-over : goal.returns-clause-over
returns-clause-over c = c.in_brief.ensures.over c.args.s.now c.in_ok-step.ensures.over
