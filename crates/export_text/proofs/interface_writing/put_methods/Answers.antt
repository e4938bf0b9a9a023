use Rattle.std.proofs.Common.{◌++◌, length, map, sym, subst, arith}
use Rattle.std.proofs.lemmas.Result.{err_from_is_err_and}
use Rattle.gv_bytes.specs.Spelling.{natural, AreItems}
use Rattle.type_model.specs.declared.term.Method.{Method}
use Rattle.type_model.specs.GoTypes.{SignatureBelow}
use Rattle.type_model.specs.Parts.{method_of}
use Rattle.type_model.specs.Tables.{types_in, count}
use Rattle.type_texts.proofs.WriteLaws.{tells_less}
use Rattle.export_text.specs.Faces.{method_text, IsMethodOut}
use Rattle.export_text.proofs.ItemLaws.{written_more, fits_more, all_written, all_fit, one_fits}
use Rattle.export_text.proofs.interface_writing.put_methods.Goals as goal

pub loop-method-preserved : goal.loop-method-preserved
loop-method-preserved c = record {
  written = written_more (λ (m : Method). method_of (types_in c.args.table.now) m) method_text (c.args.out.now.items ++ natural (length c.args.methods.now)) c.args.methods.now c.loop-method.method-index c.method-item.result c.loop-method.out.items c.put_method.new.out.items c.loop-method-test.true c.method-item.is c.loop-method.invariant.written c.in_ok-put_method.ensures.written;
  fits = fits_more (λ (m : Method). method_of (types_in c.args.table.now) m) IsMethodOut c.args.methods.now c.loop-method.method-index c.method-item.result c.loop-method-test.true c.method-item.is c.loop-method.invariant.fits c.in_ok-put_method.ensures.fits;
}

pub returns-clause-written : goal.returns-clause-written
returns-clause-written c = all_written (λ (m : Method). method_of (types_in c.args.table.now) m) method_text c.args.out.now.items c.args.methods.now c.loop-method.method-index c.loop-method.out.items (omega arith) c.loop-method.invariant.written

pub returns-clause-fits : goal.returns-clause-fits
returns-clause-fits c = all_fit (λ (m : Method). method_of (types_in c.args.table.now) m) IsMethodOut c.args.methods.now c.loop-method.method-index (omega arith) (omega arith) c.loop-method.invariant.fits

pub returns-in_err-put_method-clause-fits : goal.returns-in_err-put_method-clause-fits
returns-in_err-put_method-clause-fits c =
    let p = err_from_is_err_and c.from_residual-in_err-put_method.result c.from_residual-in_err-put_method.ensures.1 in
    rw (p.1, p.2) (tells_less c.in_err-put_method.field-0.0 (IsMethodOut (method_of (types_in c.args.table.now) c.method-item.result)) (AreItems IsMethodOut (map (λ (m : Method). method_of (types_in c.args.table.now) m) c.args.methods.now))
    (one_fits (λ (m : Method). method_of (types_in c.args.table.now) m) IsMethodOut c.args.methods.now c.loop-method.method-index c.method-item.result c.loop-method-test.true c.method-item.is) c.in_err-put_method.ensures.fits)

pub put_method-requires-clause-within : goal.put_method-requires-clause-within
put_method-requires-clause-within c =
    subst (λ (m : Method). SignatureBelow (count c.args.table.now) m.of) (sym c.method-item.is) (c.requires.within c.loop-method.method-index c.method-item.result c.loop-method-test.true)
