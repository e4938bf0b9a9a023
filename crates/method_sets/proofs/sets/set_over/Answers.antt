use Rattle.std.proofs.Common.{List, sym, subst}
use Rattle.type_model.specs.declared.term.Method.{Method}
use Rattle.type_model.specs.GoTypes.{type_at}
use Rattle.type_model.specs.Tables.{types_in}
use Rattle.method_sets.specs.Paths.{base}
use Rattle.method_sets.specs.Selections.{IsMethodSet}
use Rattle.method_sets.proofs.NoteSets.{is_set}
use Rattle.method_sets.proofs.sets.set_over.Goals as goal

pub returns : goal.returns
returns c =
    let t = c.args.t.now in
    let of = type_at (types_in t) c.args.of in
    subst (λ (l : List Method). IsMethodSet t of l) (sym c.in_ok-methods.ensures.are)
    (is_set t of (base of) c.args.entries.now c.in_ok-names.names c.is_pointer.result c.requires.reached c.in_ok-names.ensures c.taken.ensures.ordered
    c.requires.plain c.requires.open c.is_pointer.ensures)
