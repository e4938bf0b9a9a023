use Rattle.std.proofs.Common.{ap, ◌∙◌}
use Rattle.mark_walk.specs.Telling.{Says}
use Rattle.typed_tree.specs.declared.place.Want.TheVariants as demand
use Rattle.typed_marks.specs.declared.mark.Mark.{Mark}
use Rattle.typed_marks.specs.Meanings.{Wish, Wishes}
use Rattle.unit_read.specs.Subjects.{unit_of}
use Rattle.rule_words.specs.Scenes.{sight, said}
use Rattle.rule_words.specs.Wishes.{before}
use Rattle.builtin_rules.specs.Wants.{any_by}
use Rattle.rule_words.proofs.BindLaws.{says_bind}
use Rattle.builtin_rules.proofs.wants.any_wants.Goals as goal

pub returns-in-Is-clause-is : goal.returns-in-Is-clause-is
returns-in-Is-clause-is c =
    let s = c.args.s.now in
    let u = unit_of c.args.u.now in
    let told = ap (λ (m : Mark). said s m) c.operand.ensures ∙ ap (λ (w : Wish). Wishes demand.Operand w) c.any_wish.ensures.is in
    says_bind (sight s) (before u c.args.block c.args.around.now c.args.slot) any_by (said s c.in-Is.own) (Says (said s c.operand.result)) c.in-Is.ensures.is (ap Says told)
