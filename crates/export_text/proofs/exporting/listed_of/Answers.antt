use Rattle.std.proofs.Common.{List, sym, subst}
use Rattle.std.proofs.lemmas.Result.{err_from_is_err_and}
use Rattle.type_model.specs.declared.term.TypeId.{TypeId}
use Rattle.type_texts.proofs.WriteLaws.{tells_less}
use Rattle.export_text.specs.Listing.{AllCanBeListed}
use Rattle.export_text.proofs.exporting.listed_of.Goals as goal

pub returns-clause-tells : goal.returns-clause-tells
returns-clause-tells c =
    let t = c.args.table.now in
    subst (λ (l : List TypeId). AllCanBeListed t c.args.path.now l) c.deref.ensures.value (subst (λ p. AllCanBeListed t p c.deref.result.now) c.as_str.ensures c.in_ok-types.ensures.tells)

pub returns-in_err-types-clause-tells : goal.returns-in_err-types-clause-tells
returns-in_err-types-clause-tells c =
    let t = c.args.table.now in
    let p = err_from_is_err_and c.from_residual.result c.from_residual.ensures.1 in
    rw (p.1, p.2) (tells_less c.in_err-types.field-0.0 (AllCanBeListed t c.as_str.result.now c.deref.result.now) (AllCanBeListed t c.args.path.now c.args.ids.now.items)
    (λ h. subst (λ q. AllCanBeListed t q c.deref.result.now) (sym c.as_str.ensures) (subst (λ (l : List TypeId). AllCanBeListed t c.args.path.now l) (sym c.deref.ensures.value) h)) c.in_err-types.ensures.tells)
