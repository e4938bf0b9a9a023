use Rattle.std.proofs.Common.{List, sym, ap, ◌∙◌, subst}
use Rattle.std.specs.Global.{Vec}
use Rattle.mark_walk.specs.Telling.{Says, Waits, tell}
use Rattle.mark_walk.proofs.TellLaws.{told_bind}
use Rattle.type_model.specs.Parts.{GoMethod}
use Rattle.type_questions.specs.declared.reached.Found.{Found}
use Rattle.typed_marks.specs.declared.item.Item.{Item}
use Rattle.typed_marks.specs.declared.item.Stage.TheVariants as st
use Rattle.unit_read.specs.Subjects.{unit_of}
use Rattle.rule_words.specs.declared.seen.Seen.{Seen}
use Rattle.rule_words.specs.Asking.{parts_ask}
use Rattle.rule_words.specs.Scenes.{sight, said, type_in, parts_in, AreSeenOf, told_by, IfFound}
use Rattle.type_rules.specs.Interfaces.{methods_told}
use Rattle.type_rules.specs.Joining.{joined}
use Rattle.type_rules.proofs.joining.after_others.Goals as goal

pub joined-requires-clause-parts : goal.joined-requires-clause-parts
joined-requires-clause-parts c =
    let s = c.args.s.now in
    let seen : AreSeenOf s c.in-Is.list.items = subst (λ (f : Found (Vec Seen) Item). IfFound f (λ v. AreSeenOf s v.items)) c.in-Is.is c.in_ok-found.ensures.over in
    subst (λ (l : List Seen). AreSeenOf s l) (sym c.deref.ensures.value) seen

pub returns-in-Wait-clause-is : goal.returns-in-Wait-clause-is
returns-in-Wait-clause-is c =
    let s = c.args.s.now in
    let u = unit_of c.args.u.now in
    let under = type_in s c.args.under in
    sym (told_bind (sight s) (parts_ask u st.Placed c.args.block c.args.reads.now) (λ ps. joined u c.args.file c.args.reads.now (said s c.args.m) (methods_told under) ps)
    (Waits c.in-Wait.item) (sym c.in_ok-found.ensures.is ∙ ap (λ (f : Found (Vec Seen) Item). told_by (λ (v : Vec Seen). parts_in s v.items) f) c.in-Wait.is))

pub returns-in_ok-step-in-Is-clause-is : goal.returns-in_ok-step-in-Is-clause-is
returns-in_ok-step-in-Is-clause-is c =
    let s = c.args.s.now in
    let u = unit_of c.args.u.now in
    let under = type_in s c.args.under in
    c.in_ok-step-in-Is.ensures.is
    ∙ (ap (λ (ms : List GoMethod). tell (sight s) (joined u c.args.file c.args.reads.now (said s c.args.m) ms (parts_in s c.deref.result.now))) c.methods_told-methods.ensures.is
    ∙ (ap (λ (l : List Seen). tell (sight s) (joined u c.args.file c.args.reads.now (said s c.args.m) (methods_told under) (parts_in s l))) c.deref.ensures.value
    ∙ sym (told_bind (sight s) (parts_ask u st.Placed c.args.block c.args.reads.now) (λ ps. joined u c.args.file c.args.reads.now (said s c.args.m) (methods_told under) ps)
    (Says (parts_in s c.in-Is.list.items)) (sym c.in_ok-found.ensures.is ∙ ap (λ (f : Found (Vec Seen) Item). told_by (λ (v : Vec Seen). parts_in s v.items) f) c.in-Is.is))))
