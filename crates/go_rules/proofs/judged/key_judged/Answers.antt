use Rattle.std.proofs.Common.{arith, subst}
use Rattle.typed_marks.specs.declared.item.Item.{Item}
use Rattle.literal_rules.specs.declared.keys.KeyRole.{KeyRole}
use Rattle.literal_rules.specs.Keys.{key_role}
use Rattle.type_questions.specs.declared.reached.Found.{Found}
use Rattle.type_answers.specs.Coming.{FoundBy}
use Rattle.type_answers.proofs.ComingLaws.{bind_waits}
use Rattle.unit_read.specs.Subjects.{unit_of}
use Rattle.go_rules.specs.Stages.{judged_key}
use Rattle.elaborate.proofs.BriefLemmas.{bind_briefly}
use Rattle.go_rules.proofs.judged.key_judged.Goals as goal

pub returns-in-Is-clause-comes : goal.returns-in-Is-clause-comes
returns-in-Is-clause-comes c =
    let s = c.args.s.now in
    let u = unit_of c.args.u.now in
    bind_briefly c.args.u.now s (key_role u c.args.block c.args.at) (judged_key u c.args.block c.args.at c.args.node.now) c.in-Is.key _
    (subst (λ (found : Found KeyRole Item). FoundBy c.args.u.now s (λ (role : KeyRole). role) (key_role u c.args.block c.args.at) found) c.in-Is.is c.key_of.ensures) c.judged_key.ensures.comes

pub returns-in-Wait-clause-comes : goal.returns-in-Wait-clause-comes
returns-in-Wait-clause-comes c = grind (arith, bind_waits)
