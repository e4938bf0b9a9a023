use Rattle.std.proofs.Common.{List, sym, subst}
use Rattle.type_model.specs.declared.term.Method.{Method}
use Rattle.type_model.specs.GoTypes.{GoType, type_at}
use Rattle.type_model.specs.Tables.{types_in, declarations_in}
use Rattle.method_sets.specs.Paths.{IsInterface}
use Rattle.method_sets.specs.Selections.{IsMethodSet}
use Rattle.method_sets.proofs.NoteSets.{closed_set}
use Rattle.method_sets.proofs.listing.listed.Goals as goal

pub returns-then-is_closed : goal.returns-then-is_closed
returns-then-is_closed c =
    let t = c.args.t.now in
    subst (λ (l : List Method). IsMethodSet t (type_at (types_in t) c.args.of) l) (sym c.new.ensures.items)
    (closed_set t (type_at (types_in t) c.args.of) (λ x (is, apart).
    apart (c.is_closed.ensures.pointer c.if-is_closed.true)
    (subst (λ (y : GoType). IsInterface (declarations_in t) y) is (c.is_closed.ensures.interface c.if-is_closed.true))))
