use Rattle.std.proofs.Common.{arith, subst}
use Rattle.typed_marks.specs.declared.item.Item.{Item}
use Rattle.typed_marks.specs.declared.item.Stage.TheVariants as st
use Rattle.typed_marks.specs.declared.mark.Mark.{Mark}
use Rattle.rule_words.specs.Asking.{mark_ask}
use Rattle.rule_words.specs.Scenes.{said}
use Rattle.type_questions.specs.declared.reached.Found.{Found}
use Rattle.type_answers.specs.Coming.{FoundBy}
use Rattle.type_answers.proofs.ComingLaws.{bind_waits}
use Rattle.unit_read.specs.Subjects.{unit_of}
use Rattle.go_rules.specs.Stages.{judged_with}
use Rattle.elaborate.proofs.BriefLemmas.{bind_briefly}
use Rattle.go_rules.proofs.judged.judged_plain.Goals as goal

pub returns-in-Is-clause-comes : goal.returns-in-Is-clause-comes
returns-in-Is-clause-comes c =
    let s = c.args.s.now in
    let u = unit_of c.args.u.now in
    bind_briefly c.args.u.now s (mark_ask u st.Wanted c.args.block c.args.at.node) (judged_with u c.args.block c.args.at c.args.node.now) (said s c.in-Is.m) _
    (subst (λ (found : Found Mark Item). FoundBy c.args.u.now s (said s) (mark_ask u st.Wanted c.args.block c.args.at.node) found) c.in-Is.is c.ask_mark.ensures.is) c.judged_with.ensures.comes

pub returns-in-Wait-clause-comes : goal.returns-in-Wait-clause-comes
returns-in-Wait-clause-comes c = grind (arith, bind_waits)
