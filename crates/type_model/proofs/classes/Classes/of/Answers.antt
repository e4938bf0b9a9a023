use Rattle.std.proofs.Common.{◌≡◌, ◌+◌, ◌++◌, ◌∷◌, [], ℕ, true, Some, List, length, take, slice_get, refl, sym, ap, ◌∙◌, subst, arith}
use Rattle.std.proofs.lemmas.List.{take_all}
use Rattle.std.proofs.lemmas.Option.{slice_get-get_or}
use Rattle.type_model.specs.declared.term.Term.{Term}
use Rattle.type_model.specs.GoTypes.{IsOver}
use Rattle.type_model.specs.Classes.{AreShapes}
use Rattle.type_model.proofs.ForgetLaws.{take-one-more, take-length}
use Rattle.type_model.proofs.ClassLaws.{no_shapes, shapes_same, shape-push}
use Rattle.type_model.proofs.classes.Classes.of.Goals as goal

pub loop-term-init : goal.loop-term-init
loop-term-init c = record {
  tagged = refl;
  shapes = no_shapes (record { alloc = c.args.alloc; tagged = true; classes = c.new.result; numbers = c.new-2.result; count = 0 }) c.new.ensures.items c.new-2.ensures.empty refl;
}

pub meet_shape-requires : goal.meet_shape-requires
meet_shape-requires c =
    let there : slice_get c.args.terms.now c.loop-term.term-index ≡ Some c.term-item.result =
    slice_get-get_or c.args.terms.now c.loop-term.term-index c.term-item.result c.loop-term-test.true ∙ ap Some (sym c.term-item.is) in
    let size : c.loop-term.term-index ≡ length c.reserve.new.self.classes.items =
    sym (ap length c.reserve.ensures.same.classes ∙ (c.loop-term.invariant.shapes.size ∙ take-length c.args.terms.now c.loop-term.term-index c.loop-term-test.true)) in
    record { over = subst (λ (n : ℕ). IsOver n c.term-item.result) size (c.requires.over c.loop-term.term-index c.term-item.result there) }

pub loop-term-preserved : goal.loop-term-preserved
loop-term-preserved c =
    let front : List Term = take c.loop-term.term-index c.args.terms.now in
    let more : take (c.loop-term.term-index + 1) c.args.terms.now ≡ front ++ c.term-item.result ∷ [] =
    take-one-more c.args.terms.now c.loop-term.term-index c.term-item.result c.loop-term-test.true ∙ ap (λ x. front ++ x ∷ []) (sym c.term-item.is) in
    record {
      tagged = c.push.ensures.tagged ∙ (c.meet_shape.ensures.tagged ∙ (c.reserve.ensures.same.tagged ∙ c.loop-term.invariant.tagged));
      shapes = subst (λ (l : List Term). AreShapes l c.push.new.self) (sym more)
          (shape-push front c.meet_shape.new.self c.push.new.self c.term-item.result c.in_ok-class.class
          (c.in_ok-class.ensures.class front (shapes_same front c.loop-term.shapes c.reserve.new.self c.loop-term.invariant.shapes c.reserve.ensures.same))
          c.push.ensures.classes c.push.ensures.numbers c.push.ensures.count);
    }

pub returns-clause-shapes : goal.returns-clause-shapes
returns-clause-shapes c =
    subst (λ (l : List Term). AreShapes l c.loop-term.shapes) (take_all c.loop-term.term-index c.args.terms.now (omega (arith, c.loop-term-test.false))) c.loop-term.invariant.shapes
