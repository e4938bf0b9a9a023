use Rattle.std.proofs.Common.{length, map}
use Rattle.std.proofs.lemmas.Result.{err_from_is_err_and}
use Rattle.type_model.specs.Tables.{types_in, declarations_in}
use Rattle.type_texts.proofs.WriteLaws.{tells_less}
use Rattle.package_faces.specs.declared.interface.Exported.{Exported}
use Rattle.package_faces.specs.Interfaces.{object_in, id_of}
use Rattle.export_text.specs.Listing.{AllCanBeListed}
use Rattle.export_text.specs.Gathering.{CanBeExported}
use Rattle.export_text.proofs.GatherLaws.{can_export, can_list, is_gathered}
use Rattle.export_text.proofs.ListLaws.{listed_in, reached_below}
use Rattle.export_text.proofs.exporting.gather.Goals as goal

pub listed_of-requires-clause-within : goal.listed_of-requires-clause-within
listed_of-requires-clause-within c = reached_below c.args.table.now (declarations_in c.args.table.now) c.args.path (map (λ (o : Exported). id_of o.form) c.args.objects) c.in_ok-ids.ids.items c.in_ok-ids.ensures

pub listed_of-requires-clause-once : goal.listed_of-requires-clause-once
listed_of-requires-clause-once c = c.in_ok-ids.ensures.once

pub returns-clause-is : goal.returns-clause-is
returns-clause-is c =
    rw c.new.ensures (is_gathered c.args.table.now c.args.path c.args.name c.args.objects c.requires.within c.in_ok-ids.ids.items c.in_ok-ids.ensures c.in_ok-types.types.items c.in_ok-types.ensures.are c.in_ok-types.ensures.rise)

pub returns-clause-within : goal.returns-clause-within
returns-clause-within c = record {
  objects = c.requires.within;
  defined = rw c.new.ensures (listed_in c.args.table.now c.args.path c.in_ok-ids.ids.items (length c.in_ok-ids.ids.items) c.in_ok-types.types.items c.in_ok-types.ensures.are);
}

pub returns-clause-tells : goal.returns-clause-tells
returns-clause-tells c = can_export c.args.table.now c.args.path c.args.name c.args.objects c.requires.within c.in_ok-ids.ids.items c.in_ok-ids.ensures c.in_ok-types.ensures.tells

pub returns-in_err-types-clause-tells : goal.returns-in_err-types-clause-tells
returns-in_err-types-clause-tells c =
    let t = c.args.table.now in
    let p = err_from_is_err_and c.from_residual-in_err-types.result c.from_residual-in_err-types.ensures.1 in
    rw (p.1, p.2) (tells_less c.in_err-types.field-0.0 (AllCanBeListed t c.args.path c.in_ok-ids.ids.items) (CanBeExported (declarations_in t) c.args.path (map (λ (o : Exported). object_in (types_in t) o) c.args.objects))
    (can_list t c.args.path c.args.name c.args.objects c.requires.within c.in_ok-ids.ids.items c.in_ok-ids.ensures) c.in_err-types.ensures.tells)
