use Rattle.std.proofs.Common.{option_map, ap, ◌∙◌}
use Rattle.type_model.specs.GoTypes.{GoType}
use Rattle.mark_walk.specs.Telling.{tell}
use Rattle.unit_read.specs.Subjects.{unit_of}
use Rattle.rule_words.specs.Scenes.{sight, type_in, parts_in}
use Rattle.rule_words.specs.Steps.{step_in}
use Rattle.builtin_rules.specs.Builtin.{first_under, shaped_rule, known_rule}
use Rattle.builtin_rules.specs.Musts.{shape_ask}
use Rattle.rule_words.proofs.BindLaws.{says_bind, waits_bind}
use Rattle.builtin_rules.proofs.built.judge_known.Goals as goal

pub returns-in-Is-clause-is : goal.returns-in-Is-clause-is
unfolding known_rule
returns-in-Is-clause-is c =
    let s = c.args.s.now in
    let u = unit_of c.args.u.now in
    let ps = parts_in s c.args.parts.now in
    let must = c.args.l.must in
    says_bind (sight s) (shape_ask u must (first_under ps)) (shaped_rule u c.args.block c.args.file c.args.node.now ps c.args.l) (option_map (type_in s) c.in-Is.of) (step_in s c.judge_shaped.result)
    (c.in-Is.ensures.is ∙ ap (λ (t : GoType). tell (sight s) (shape_ask u must t)) c.first_under-under.ensures.is) c.judge_shaped.ensures.is

pub returns-in-Wait-clause-is : goal.returns-in-Wait-clause-is
unfolding known_rule
returns-in-Wait-clause-is c =
    let s = c.args.s.now in
    let u = unit_of c.args.u.now in
    let ps = parts_in s c.args.parts.now in
    let must = c.args.l.must in
    waits_bind (sight s) (shape_ask u must (first_under ps)) (shaped_rule u c.args.block c.args.file c.args.node.now ps c.args.l) c.in-Wait.item
    (c.in-Wait.ensures.is ∙ ap (λ (t : GoType). tell (sight s) (shape_ask u must t)) c.first_under-under.ensures.is)
