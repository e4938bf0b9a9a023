use Rattle.std.proofs.Common.{◌≡◌, ◌↔◌, Bool, true, sym, subst}
use Rattle.type_model.specs.GoTypes.{type_at, PointerTo}
use Rattle.type_model.specs.Tables.{types_in, declarations_in}
use Rattle.lock_types.specs.Locks.{HasMethod}
use Rattle.lock_types.proofs.PlainLemmas.{pointer_selects}
use Rattle.lock_types.proofs.plain.pointer_has.Goals as goal

pub returns : goal.returns
returns c =
    let t = c.args.t.now in
    let of = type_at (types_in t) c.args.id in
    subst (λ (b : Bool). (b ≡ true) ↔ HasMethod (declarations_in t) (PointerTo of) c.args.name.now) (sym c.is_plain_selection.ensures)
    (pointer_selects t of c.args.name.now c.one_selection.ensures.path c.one_selection.ensures.apart c.one_selection.ensures.none c.in_ok-selection.selection c.requires.is_struct c.in_ok-selection.ensures)
