use Rattle.std.proofs.Common.{Bool, true, false, ap, ◌∙◌, sym, subst, refl, inl}
use Rattle.std.specs.Global.{Vec}
use Rattle.typed_marks.specs.declared.item.Item.{Item}
use Rattle.typed_marks.specs.declared.item.Block.{Block}
use Rattle.typed_marks.specs.Meanings.{Quiet, Declares}
use Rattle.type_questions.specs.declared.reached.Found.{Found}
use Rattle.type_questions.specs.declared.reached.Found.TheVariants as f
use Rattle.type_questions.specs.declared.reached.Reached.TheVariants.{Got, Lost}
use Rattle.type_questions.specs.Questions.{Holds}
use Rattle.rule_words.specs.Declaring.{declaration_in}
use Rattle.rule_words.specs.Scenes.{type_in}
use Rattle.elaborate.specs.Settling.{IsWholeBy}
use Rattle.elaborate.proofs.StepLemmas.{stays_itself, enough}
use Rattle.elaborate.proofs.steps.declare_with.Goals as goal

pub returns-in-Wait-clause-steps : goal.returns-in-Wait-clause-steps
returns-in-Wait-clause-steps c =
    let u = c.args.u.now in
    let s = c.args.s.now in
    let pends = subst (IsWholeBy u s (type_in s c.args.under)) c.in-Wait.is c.in_ok-found.ensures in
    (inl pends, stays_itself s)

pub declare-requires-clause-whole : goal.declare-requires-clause-whole
declare-requires-clause-whole c =
    let u = c.args.u.now in
    let s = c.args.s.now in
    let of = type_in s c.args.under in
    let found = subst (IsWholeBy u s of) c.in-Is.is c.in_ok-found.ensures in
    let is = subst (λ (b : Bool). IsWholeBy u s of (f.Is b)) c.if-whole.true found in
    enough u s of c.requires.work.scene is.0 is.1

pub returns-in_ok-declare-in-Is-clause-steps : goal.returns-in_ok-declare-in-Is-clause-steps
returns-in_ok-declare-in-Is-clause-steps c =
    let u = c.args.u.now in
    let s = c.args.s.now in
    let of = type_in s c.args.under in
    let found = subst (IsWholeBy u s of) c.in-Is.is c.in_ok-found.ensures in
    let is = subst (λ (b : Bool). IsWholeBy u s of (f.Is b)) c.if-whole.true found in
    (Declares (declaration_in s c.args.under c.args.methods.items), (Holds (Got is.0), is.1, refl), c.in_ok-declare-in-Is.ensures.adds)

pub returns-in_ok-leave-in-Is-clause-steps : goal.returns-in_ok-leave-in-Is-clause-steps
returns-in_ok-leave-in-Is-clause-steps c =
    let u = c.args.u.now in
    let s = c.args.s.now in
    let of = type_in s c.args.under in
    let found = subst (IsWholeBy u s of) c.in-Is.is c.in_ok-found.ensures in
    let is = subst (λ (b : Bool). IsWholeBy u s of (f.Is b)) c.if-whole.false found in
    (Quiet, (Holds Lost, is, refl), c.in_ok-leave-in-Is.ensures.adds)
