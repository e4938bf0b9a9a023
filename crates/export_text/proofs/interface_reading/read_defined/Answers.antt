use Rattle.std.proofs.Common.{List, map, sym, subst}
use Rattle.type_model.specs.declared.term.Method.{Method}
use Rattle.type_model.specs.GoTypes.{type_at, MethodsBelow}
use Rattle.type_model.specs.Parts.{method_of}
use Rattle.type_model.specs.Tables.{types_in, count}
use Rattle.type_texts.proofs.GrowLaws.{grown_itself, grown_then}
use Rattle.export_text.proofs.FaceReading.{defined_read}
use Rattle.export_text.proofs.InterfaceLaws.{id_stays}
use Rattle.export_text.proofs.interface_reading.read_defined.Goals as goal

pub returns-clause-is : goal.returns-clause-is
returns-clause-is c =
    let middle = c.read_type.new.table in
    let last = c.read_ordered_methods.new.table in
    rw c.new.ensures (defined_read c.args.bytes.now c.in_ok-name.rest.now c.in_ok-under.rest.now c.in_ok-methods.rest.now c.in_ok-name.name (type_at (types_in middle) c.in_ok-under.under) (type_at (types_in last) c.in_ok-under.under)
    (map (λ (m : Method). method_of (types_in last) m) c.in_ok-methods.methods.items) c.in_ok-name.ensures c.in_ok-under.ensures.is c.in_ok-methods.ensures.is
    (sym (id_stays middle last c.in_ok-under.under c.in_ok-methods.ensures.grown c.in_ok-under.ensures.below)))

pub returns-clause-grown : goal.returns-clause-grown
returns-clause-grown c = grown_then c.args.table.now c.read_type.new.table c.read_ordered_methods.new.table c.in_ok-under.ensures.grown c.in_ok-methods.ensures.grown

pub returns-in_err-methods-clause-grown : goal.returns-in_err-methods-clause-grown
returns-in_err-methods-clause-grown c = grown_then c.args.table.now c.read_type.new.table c.read_ordered_methods.new.table c.in_ok-under.ensures.grown c.in_err-methods.ensures.grown

pub returns-clause-below : goal.returns-clause-below
returns-clause-below c = ((c.in_ok-methods.ensures.grown.extends c.in_ok-under.under.0 c.in_ok-under.ensures.below).0, subst (λ (ms : List Method). MethodsBelow (count c.read_ordered_methods.new.table) ms) (sym c.new.ensures) c.in_ok-methods.ensures.below)

pub returns-in_err-name-clause-grown : goal.returns-in_err-name-clause-grown
returns-in_err-name-clause-grown c = grown_itself c.args.table.now c.requires.table
