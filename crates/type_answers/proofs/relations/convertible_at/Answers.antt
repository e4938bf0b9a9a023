use Rattle.std.proofs.Common.{Bool, subst}
use Rattle.typed_marks.specs.declared.item.Item.{Item}
use Rattle.type_questions.specs.declared.reached.Found.{Found}
use Rattle.type_questions.specs.declared.reached.Reached.{Reached}
use Rattle.type_questions.specs.Questions.{Question, Holds}
use Rattle.type_answers.specs.Answering.{IsAnswered}
use Rattle.type_answers.specs.declared.relations.Relation.TheVariants as r
use Rattle.type_answers.proofs.OperandLemmas.{of_operand}
use Rattle.type_answers.proofs.PendingLemmas.{in_step}
use Rattle.type_answers.proofs.relations.convertible_at.Goals as goal

pub returns : goal.returns
returns c =
    let s = c.args.s.now in
    let x = c.in_ok-x.x in
    of_operand s r.Convertible c.args.methods.now c.args.to x.of c.args.of x.value c.args.value
    (λ (q : Question). IsAnswered c.args.u.now s q Holds c.convertible_to.result)
    c.in_ok-x.ensures.of c.in_ok-x.ensures.value c.convertible_to.ensures

pub convertible_to-requires-clause-step : goal.convertible_to-requires-clause-step
convertible_to-requires-clause-step c = in_step c.args.u.now c.args.s.now c.requires.scene
