use Rattle.std.proofs.Common.{subst}
use Rattle.type_answers.specs.Coming.{ComesTo}
use Rattle.unit_read.specs.Subjects.{unit_of}
use Rattle.rule_words.specs.Scenes.{said}
use Rattle.rule_words.specs.Words.{Wanted, wanted_in}
use Rattle.op_rules.specs.Placed.{placed_rule}
use Rattle.go_rules.proofs.placed.placed_with.Goals as goal

pub returns-clause-comes : goal.returns-clause-comes
returns-clause-comes c =
    let s = c.args.s.now in
    let u = c.args.u.now in
    c.in_brief.ensures.comes u s (placed_rule (unit_of u) (wanted_in (said s c.args.m)) (said s c.args.j))
    (subst (λ (w : Wanted). ComesTo u s (placed_rule (unit_of u) w (said s c.args.j)) c.in_ok-step.step) c.wanted_by-w.ensures.is c.in_ok-step.ensures.comes)

pub returns-clause-over : goal.returns-clause-over
returns-clause-over c = c.in_brief.ensures.over c.args.s.now c.in_ok-step.ensures.over
