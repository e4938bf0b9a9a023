use Rattle.std.proofs.Common.{ℕ, length, sym, ap, ◌∙◌, subst}
use Rattle.type_model.specs.GoTypes.{IsOver}
use Rattle.type_model.proofs.ClassLaws.{shapes_same, shape_class}
use Rattle.type_model.proofs.classes.Classes.meet_first.Goals as goal

pub meet_shape-requires : goal.meet_shape-requires
meet_shape-requires c =
    record { over = subst (λ (n : ℕ). IsOver n c.args.term.now) (sym (ap length c.reserve.ensures.same.classes ∙ c.in_ok-shapes.ensures.shapes.size)) c.requires.over }

pub returns-clause-class : goal.returns-clause-class
returns-clause-class c =
    shape_class c.args.terms.now c.meet_shape.new.self c.args.term.now c.in_ok-class.class
    (c.meet_shape.ensures.tagged ∙ (c.reserve.ensures.same.tagged ∙ c.in_ok-shapes.ensures.tagged))
    (c.in_ok-class.ensures.class c.args.terms.now (shapes_same c.args.terms.now c.in_ok-shapes.shapes c.reserve.new.self c.in_ok-shapes.ensures.shapes c.reserve.ensures.same))
