use Rattle.std.proofs.Common.{Bool, sym, ◌∙◌, subst}
use Rattle.std.specs.Prelude.{IfOk, if◌then◌else◌}
use Rattle.unit_read.specs.Subjects.{unit_of}
use Rattle.rule_words.specs.Asking.{Rule}
use Rattle.rule_words.specs.Scenes.{said}
use Rattle.call_rules.specs.Passing.{passed_rule}
use Rattle.elaborate.specs.Briefs.{ComesBriefly}
use Rattle.go_rules.specs.Stages.{placed_plain}
use Rattle.go_rules.proofs.placed.placed_argument.Goals as goal

pub returns-then-is_passed-clause-comes : goal.returns-then-is_passed-clause-comes
returns-then-is_passed-clause-comes c =
    let s = c.args.s.now in
    let u = unit_of c.args.u.now in
    let j = said s c.args.j in
    let rule : Bool → Rule = λ b. if b then passed_rule u c.args.block c.args.around.now j else placed_plain u c.args.block c.args.at j in
    subst (λ (b : Bool). IfOk c.in_brief.result (ComesBriefly c.args.u.now s (rule b))) (sym c.if-is_passed.true ∙ c.is_passed.ensures)
    (c.in_brief.ensures.comes c.args.u.now s (passed_rule u c.args.block c.args.around.now j) c.in_ok-step.ensures.comes)

pub returns-then-is_passed-clause-over : goal.returns-then-is_passed-clause-over
returns-then-is_passed-clause-over c = c.in_brief.ensures.over c.args.s.now c.in_ok-step.ensures.over
