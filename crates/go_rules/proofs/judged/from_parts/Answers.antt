use Rattle.std.proofs.Common.{subst}
use Rattle.unit_read.specs.Subjects.{unit_of}
use Rattle.rule_words.specs.Asking.{Rule}
use Rattle.rule_words.specs.Scenes.{parts_in}
use Rattle.rule_words.specs.Wanting.{wanted_of}
use Rattle.type_answers.specs.Coming.{ComesTo}
use Rattle.go_rules.specs.declared.family.Family.{Family}
use Rattle.go_rules.specs.Families.{family, rule_by}
use Rattle.go_rules.proofs.judged.from_parts.Goals as goal

pub returns-clause-comes : goal.returns-clause-comes
returns-clause-comes c =
    let s = c.args.s.now in
    let rule : Family → Rule = λ by. rule_by by (unit_of c.args.u.now) c.args.block c.args.at c.args.node.now (parts_in s c.args.list.now) (wanted_of s c.args.w) in
    c.in_brief.ensures.comes c.args.u.now s (rule (family c.args.node.now.kind))
    (subst (λ (by : Family). ComesTo c.args.u.now s (rule by) c.in_ok-step.step) c.family_of-by.ensures c.in_ok-step.ensures.comes)

pub returns-clause-over : goal.returns-clause-over
returns-clause-over c = c.in_brief.ensures.over c.args.s.now c.in_ok-step.ensures.over
