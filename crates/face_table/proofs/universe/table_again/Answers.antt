use Rattle.std.proofs.Common.{◌<◌, List, length, sym, ap, ◌∙◌, subst}
use Rattle.type_model.specs.GoTypes.{type_number, types_of}
use Rattle.type_model.specs.declared.term.Term.{Term}
use Rattle.face_table.proofs.universe.table_again.Goals as goal

pub returns-clause-extends : goal.returns-clause-extends
returns-clause-extends c = λ i low.
    let first = c.in_ok-under.ensures.extends i (subst (λ (l : List Term). i < length l) (sym c.in_ok-t.ensures.same) low) in
    let then_so = c.in_ok-declare_error.ensures.extends i first.0 in
    (then_so.0, then_so.1 ∙ (first.1 ∙ ap (λ (l : List Term). type_number (types_of l) i) c.in_ok-t.ensures.same))
