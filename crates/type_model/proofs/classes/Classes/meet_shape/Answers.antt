use Rattle.std.proofs.Common.{ℕ, List, sym, ap, ◌∙◌, subst}
use Rattle.type_model.specs.GoTypes.{IsOver}
use Rattle.type_model.specs.Spelling.{spelled}
use Rattle.type_model.specs.Indexes.{found}
use Rattle.type_model.specs.Shapes.{shape}
use Rattle.type_model.specs.Classes.{IsShape}
use Rattle.type_model.proofs.ClassLaws.{met, begun}
use Rattle.type_model.proofs.classes.Classes.meet_shape.Goals as goal

pub returns-in-Some-clause-class : goal.returns-in-Some-clause-class
returns-in-Some-clause-class c terms are =
    met terms c.args.self.now c.args.term.now c.in_ok-key.key.items c.in-Some.class are
    (subst (λ (n : ℕ). IsOver n c.args.term.now) are.size c.requires.over)
    (c.in_ok-key.ensures ∙ ap (λ (l : List ℕ). spelled (shape l c.args.term.now)) c.deref.ensures.value)
    (ap (λ k. found c.args.self.now.numbers k) (sym c.deref-2.ensures.value) ∙ (sym c.find.ensures ∙ c.in-Some.is))

pub returns-clause-class : goal.returns-clause-class
returns-clause-class c terms are =
    subst (λ (n : ℕ). IsShape terms c.begin.new.self c.args.term.now n) (sym c.in_ok-class.ensures.class)
    (begun terms c.args.self.now c.begin.new.self c.args.term.now c.in_ok-key.key.items are
    (subst (λ (n : ℕ). IsOver n c.args.term.now) are.size c.requires.over)
    (c.in_ok-key.ensures ∙ ap (λ (l : List ℕ). spelled (shape l c.args.term.now)) c.deref.ensures.value)
    (ap (λ k. found c.args.self.now.numbers k) (sym c.deref-2.ensures.value) ∙ (sym c.find.ensures ∙ c.in_default.is))
    c.in_ok-class.ensures.put c.in_ok-class.ensures.count (ap (λ v. v.items) c.begin.ensures.classes))
