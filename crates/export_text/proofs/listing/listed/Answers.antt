use Rattle.std.proofs.Common.{rules, subst}
use Rattle.std.proofs.lemmas.Result.{err_from_is_err_and}
use Rattle.type_model.specs.GoTypes.{type_at}
use Rattle.type_model.specs.Tables.{types_in, declarations_in}
use Rattle.type_texts.proofs.WriteLaws.{tells_less}
use Rattle.export_text.specs.Listing.{CanBeListed, IsForeign, IsOwnType, IsPlain}
use Rattle.export_text.proofs.ListLaws.{foreign_can, plain_can}
use Rattle.export_text.proofs.listing.listed.Goals as goal

pub returns-in_default-clause-tells : goal.returns-in_default-clause-tells
returns-in_default-clause-tells c =
    let foreign : IsForeign c.args.path.now (type_at (types_in c.args.table.now) c.args.id) = search rules in
    foreign_can (declarations_in c.args.table.now) c.args.path.now (type_at (types_in c.args.table.now) c.args.id) foreign

pub returns-clause-is : goal.returns-clause-is
returns-clause-is c = subst (λ p. IsOwnType c.args.table.now p c.args.id c.in_ok-own.own) c.in-Some.ensures.1 c.in_ok-own.ensures.is

pub returns-clause-tells : goal.returns-clause-tells
returns-clause-tells c = plain_can (declarations_in c.args.table.now) c.args.path.now (type_at (types_in c.args.table.now) c.args.id) c.in-Some.name.now c.in-Some.ensures.0 c.in_ok-own.ensures.tells

pub returns-in_err-own-clause-tells : goal.returns-in_err-own-clause-tells
returns-in_err-own-clause-tells c =
    let t = c.args.table.now in
    let p = err_from_is_err_and c.from_residual.result c.from_residual.ensures.1 in
    rw (p.1, p.2) (tells_less c.in_err-own.field-0.0 (IsPlain (declarations_in t) c.in-Some.name.now) (CanBeListed (declarations_in t) c.args.path.now (type_at (types_in t) c.args.id))
    (λ h. h c.in-Some.name.now c.in-Some.ensures.0 c.in-Some.ensures.1) c.in_err-own.ensures.tells)
