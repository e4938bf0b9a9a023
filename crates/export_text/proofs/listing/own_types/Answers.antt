use Rattle.std.proofs.Common.{◌≡◌, ◌<◌, inl, inr, ℕ, List, [], length, slice_get, sym, ap, ◌∙◌, subst, arith}
use Rattle.std.proofs.lemmas.List.Elements.{All-contains}
use Rattle.std.proofs.lemmas.Option.{same_Some}
use Rattle.std.proofs.lemmas.Result.{err_from_is_err_and}
use Rattle.type_model.specs.declared.term.TypeId.{TypeId}
use Rattle.type_model.specs.GoTypes.{type_at}
use Rattle.type_model.specs.Tables.{types_in, count, declarations_in}
use Rattle.type_texts.proofs.WriteLaws.{tells_less}
use Rattle.package_faces.specs.declared.interface.ExportedType.{ExportedType}
use Rattle.export_text.specs.Listing.{AllCanBeListed, AreListed, AreNamedOnce, CanBeListed}
use Rattle.export_text.proofs.SearchLaws.{at_or_before, contained, read}
use Rattle.export_text.proofs.ListLaws.{none_listed, none_named, listed_more}
use Rattle.export_text.proofs.listing.own_types.Goals as goal

pub loop-k-init : goal.loop-k-init
loop-k-init c =
    let none : c.new-types.result.items ≡ [] = c.new-types.ensures.items in
    record {
      are = subst (λ (l : List ExportedType). AreListed c.args.table.now c.args.path.now c.args.ids.now 0 l) (sym none) (none_listed c.args.table.now c.args.path.now c.args.ids.now);
      once = subst AreNamedOnce (sym none) none_named;
      can = λ j x low e. absurd (omega (arith, low));
    }

pub push_listed-requires-clause-within : goal.push_listed-requires-clause-within
push_listed-requires-clause-within c =
    All-contains (λ (x : TypeId). x.0 < count c.args.table.now) c.args.ids.now c.type_listed-id.result c.requires.within (contained c.args.ids.now c.type_listed-id.result c.loop-k.k c.type_listed-id.ensures)

pub loop-k-preserved : goal.loop-k-preserved
loop-k-preserved c =
    let t = c.args.table.now in
    let ids = c.args.ids.now in
    let id = c.type_listed-id.result in
    let more = listed_more t c.args.path.now ids c.loop-k.k c.loop-k.types.items c.push_listed.new.types.items id c.type_listed-id.ensures c.requires.table c.requires.within c.requires.once c.loop-k.invariant.are c.loop-k.invariant.once c.in_ok-push_listed.ensures.is in
    record {
      are = more.0;
      once = more.1;
      can = λ j x low e. elim (at_or_before j c.loop-k.k low) [
        | inl same ↦
            let one : id ≡ x = same_Some id x (sym c.type_listed-id.ensures ∙ (ap (λ (i : ℕ). slice_get ids i) (sym same) ∙ e)) in
            subst (λ (z : TypeId). CanBeListed (declarations_in t) c.args.path.now (type_at (types_in t) z)) one c.in_ok-push_listed.ensures.tells
        | inr less ↦ c.loop-k.invariant.can j x less e
      ];
    }

pub returns-clause-are : goal.returns-clause-are
returns-clause-are c =
    let end : c.loop-k.k ≡ length c.args.ids.now = omega arith in
    subst (λ (n : ℕ). AreListed c.args.table.now c.args.path.now c.args.ids.now n c.loop-k.types.items) end c.loop-k.invariant.are

pub returns-clause-tells : goal.returns-clause-tells
returns-clause-tells c = λ id has.
    let r = read c.args.ids.now id has in
    let low = r.1 in
    c.loop-k.invariant.can r.0 id (omega (arith, low)) r.2

pub returns-in_err-push_listed-clause-tells : goal.returns-in_err-push_listed-clause-tells
returns-in_err-push_listed-clause-tells c =
    let p = err_from_is_err_and c.from_residual.result c.from_residual.ensures.1 in
    rw (p.1, p.2) (tells_less c.in_err-push_listed.field-0.0 (CanBeListed (declarations_in c.args.table.now) c.args.path.now (type_at (types_in c.args.table.now) c.type_listed-id.result)) (AllCanBeListed c.args.table.now c.args.path.now c.args.ids.now)
    (λ h. h c.type_listed-id.result (contained c.args.ids.now c.type_listed-id.result c.loop-k.k c.type_listed-id.ensures)) c.in_err-push_listed.ensures.tells)
