use Rattle.std.proofs.Common.{◌≡◌, sym, subst, arith}
use Rattle.rule_words.specs.Scenes.{sight}
use Rattle.std.specs.Prelude.{IfOk}
use Rattle.mark_walk.specs.Telling.{tell}
use Rattle.typed_marks.specs.declared.item.Stage.{Stage}
use Rattle.typed_marks.specs.declared.item.Stage.TheVariants as st
use Rattle.unit_read.specs.Subjects.{unit_of}
use Rattle.rule_words.specs.Asking.{Rule}
use Rattle.rule_words.specs.Steps.{step_in}
use Rattle.type_answers.proofs.ComingLaws.{same_comes}
use Rattle.elaborate.specs.Briefs.{step_of, ComesBriefly}
use Rattle.elaborate.proofs.BriefLemmas.{same_briefly}
use Rattle.go_rules.specs.declared.role.Role.{Role}
use Rattle.go_rules.specs.Stages.{in_own, object_as, stage_rule}
use Rattle.go_rules.proofs.judge.judge_stage.Goals as goal

pub returns-in-Wanted-clause-comes : goal.returns-in-Wanted-clause-comes
returns-in-Wanted-clause-comes c = grind (arith, same_comes)

pub returns-in-Object-clause-comes : goal.returns-in-Object-clause-comes
returns-in-Object-clause-comes c =
    let s = c.args.s.now in
    let u = unit_of c.args.u.now in
    let rule : Stage → Rule = λ stage. stage_rule stage u c.args.block c.args.at c.args.node.now in
    subst (λ (stage : Stage). IfOk c.object.result (ComesBriefly c.args.u.now s (rule stage))) (sym c.in-Object.is)
    (same_briefly c.args.u.now s (rule st.Object) c.object.result c.requires.scene
    (subst (λ (role : Role). IfOk c.object.result (λ brief. step_in s (step_of brief) ≡ tell (sight s) (in_own c.args.block c.args.at (object_as role u c.args.at c.args.node.now))))
    c.role_at-in-Object.ensures c.object.ensures.is))
