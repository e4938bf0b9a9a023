use Rattle.std.proofs.Common.{◌++◌, length, map, sym, subst, arith}
use Rattle.std.proofs.lemmas.Result.{err_from_is_err_and}
use Rattle.gv_bytes.specs.Spelling.{natural, AreItems}
use Rattle.package_faces.specs.declared.interface.ExportedType.{ExportedType}
use Rattle.type_model.specs.Tables.{types_in, count}
use Rattle.type_texts.proofs.WriteLaws.{tells_less}
use Rattle.export_text.specs.Faces.{defined_text, IsDefinedOut}
use Rattle.package_faces.specs.Interfaces.{defined_in, IsDefinedIn}
use Rattle.export_text.proofs.ItemLaws.{written_more, fits_more, all_written, all_fit, one_fits}
use Rattle.export_text.proofs.interface_writing.put_defineds.Goals as goal

pub loop-defined-preserved : goal.loop-defined-preserved
loop-defined-preserved c = record {
  written = written_more (λ (d : ExportedType). defined_in (types_in c.args.table.now) d) defined_text (c.args.out.now.items ++ natural (length c.args.types.now)) c.args.types.now c.loop-defined.defined-index c.defined-item.result c.loop-defined.out.items c.put_defined.new.out.items c.loop-defined-test.true c.defined-item.is c.loop-defined.invariant.written c.in_ok-put_defined.ensures.written;
  fits = fits_more (λ (d : ExportedType). defined_in (types_in c.args.table.now) d) IsDefinedOut c.args.types.now c.loop-defined.defined-index c.defined-item.result c.loop-defined-test.true c.defined-item.is c.loop-defined.invariant.fits c.in_ok-put_defined.ensures.fits;
}

pub returns-clause-written : goal.returns-clause-written
returns-clause-written c = all_written (λ (d : ExportedType). defined_in (types_in c.args.table.now) d) defined_text c.args.out.now.items c.args.types.now c.loop-defined.defined-index c.loop-defined.out.items (omega arith) c.loop-defined.invariant.written

pub returns-clause-fits : goal.returns-clause-fits
returns-clause-fits c = all_fit (λ (d : ExportedType). defined_in (types_in c.args.table.now) d) IsDefinedOut c.args.types.now c.loop-defined.defined-index (omega arith) (omega arith) c.loop-defined.invariant.fits

pub returns-in_err-put_defined-clause-fits : goal.returns-in_err-put_defined-clause-fits
returns-in_err-put_defined-clause-fits c =
    let p = err_from_is_err_and c.from_residual-in_err-put_defined.result c.from_residual-in_err-put_defined.ensures.1 in
    rw (p.1, p.2) (tells_less c.in_err-put_defined.field-0.0 (IsDefinedOut (defined_in (types_in c.args.table.now) c.defined-item.result)) (AreItems IsDefinedOut (map (λ (d : ExportedType). defined_in (types_in c.args.table.now) d) c.args.types.now))
    (one_fits (λ (d : ExportedType). defined_in (types_in c.args.table.now) d) IsDefinedOut c.args.types.now c.loop-defined.defined-index c.defined-item.result c.loop-defined-test.true c.defined-item.is) c.in_err-put_defined.ensures.fits)

pub put_defined-requires-clause-within : goal.put_defined-requires-clause-within
put_defined-requires-clause-within c =
    subst (λ (d : ExportedType). IsDefinedIn (count c.args.table.now) d) (sym c.defined-item.is) (c.requires.within.each c.loop-defined.defined-index c.defined-item.result c.loop-defined-test.true)
