use Rattle.std.proofs.Common.{◌≡◌, true, take}
use Rattle.type_model.specs.Classes.{AreShapes}
use Rattle.type_model.proofs.classes.Classes.of.Given as goal

abbrev pub invariant-loop-term : goal.invariant-loop-term
invariant-loop-term l =
    record {
      tagged : l.shapes.tagged ≡ true;
      shapes : AreShapes (take l.term-index l.terms) l.shapes;
    }
