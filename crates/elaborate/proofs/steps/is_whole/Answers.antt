use Rattle.std.proofs.Common.{Bool, ◌∙◌, sym, ap, subst}
use Rattle.type_questions.specs.declared.reached.Found.{Found}
use Rattle.type_questions.specs.declared.reached.Found.TheVariants as f
use Rattle.type_questions.specs.declared.reached.Reached.{Reached}
use Rattle.type_questions.specs.Questions.{IsComparable, Holds, IsFound}
use Rattle.typed_marks.specs.declared.item.Item.{Item}
use Rattle.typed_marks.specs.States.{so_far}
use Rattle.unit_read.specs.Units.{base_of}
use Rattle.unit_read.specs.Subjects.{full_of, unit_of}
use Rattle.rule_words.specs.Asking.{declarer, declaration_told}
use Rattle.rule_words.specs.Scenes.{type_in}
use Rattle.elaborate.specs.Settling.{IsWholeBy}
use Rattle.elaborate.proofs.StepLemmas.{whole_by}
use Rattle.elaborate.proofs.steps.is_whole.Goals as goal

pub returns-in-Is : goal.returns-in-Is
returns-in-Is c =
    let u = c.args.u.now in
    let s = c.args.s.now in
    let of = type_in s c.args.of in
    let says = subst (λ (found : Found (Reached Bool) Item). IsFound (base_of (full_of u)) (declarer (unit_of u)) declaration_told (so_far s) (IsComparable of) Holds found) c.in-Is.is c.in_ok-found.ensures in
    subst (λ (b : Bool). IsWholeBy u s of (f.Is b)) (sym c.is_got.ensures) (whole_by u s of c.in-Is.reached says)
