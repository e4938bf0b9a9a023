use Rattle.std.proofs.Common.{sym, ap, ◌∙◌}
use Rattle.mark_walk.specs.Telling.{Says, Waits}
use Rattle.mark_walk.proofs.TellLaws.{told_bind}
use Rattle.unit_read.specs.Subjects.{unit_of}
use Rattle.rule_words.specs.Scenes.{sight, told_by, parts_in}
use Rattle.rule_words.specs.Wishes.{wish_of}
use Rattle.op_rules.specs.Rules.{free_ask, freed_rule}
use Rattle.op_rules.proofs.rules.judge_op.Goals as goal

pub returns-in_ok-step-in-Is-clause-is : goal.returns-in_ok-step-in-Is-clause-is
returns-in_ok-step-in-Is-clause-is c =
    let s = c.args.s.now in
    let u = unit_of c.args.u.now in
    c.in_ok-step-in-Is.ensures.is
    ∙ sym (told_bind (sight s) (free_ask u (wish_of s c.args.wanted.want)) (freed_rule u c.args.block c.args.at c.args.node.now (parts_in s c.args.parts.now) c.args.wanted.demand)
    (Says (wish_of s c.in-Is.want)) (sym c.free.ensures.is ∙ ap (told_by (wish_of s)) c.in-Is.is))

pub returns-in-Wait-clause-is : goal.returns-in-Wait-clause-is
returns-in-Wait-clause-is c =
    let s = c.args.s.now in
    let u = unit_of c.args.u.now in
    sym (told_bind (sight s) (free_ask u (wish_of s c.args.wanted.want)) (freed_rule u c.args.block c.args.at c.args.node.now (parts_in s c.args.parts.now) c.args.wanted.demand)
    (Waits c.in-Wait.item) (sym c.free.ensures.is ∙ ap (told_by (wish_of s)) c.in-Wait.is))
