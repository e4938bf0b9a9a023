use Rattle.std.proofs.Common.{ℕ, Option, sym, ap, ◌∙◌}
use Rattle.rule_words.specs.Scenes.{sight}
use Rattle.std.specs.Option.{option_map_or}
use Rattle.mark_walk.specs.Telling.{tell}
use Rattle.unit_read.specs.Subjects.{unit_of}
use Rattle.type_answers.proofs.ComingLaws.{same_comes}
use Rattle.go_rules.specs.Stages.{before_in, before_plain}
use Rattle.go_rules.specs.Statements.{switched_rule}
use Rattle.go_rules.proofs.judged.before_in.Goals as goal

pub returns-in-Some-clause-comes : goal.returns-in-Some-clause-comes
returns-in-Some-clause-comes c =
    let s = c.args.s.now in
    let u = unit_of c.args.u.now in
    let at = c.args.at in
    let rule = before_in u c.args.block at c.args.node.now in
    c.in_brief.ensures.comes c.args.u.now s rule (same_comes c.args.u.now s rule c.judge_switched.result c.requires (c.judge_switched.ensures.is
    ∙ ap (λ (o : Option ℕ). tell (sight s) (option_map_or (switched_rule u at.file) o (before_plain u c.args.block at c.args.node.now))) (sym c.in-Some.is ∙ c.clause_for.ensures)))

pub returns-in-Some-clause-over : goal.returns-in-Some-clause-over
returns-in-Some-clause-over c = c.in_brief.ensures.over c.args.s.now c.judge_switched.ensures.over
