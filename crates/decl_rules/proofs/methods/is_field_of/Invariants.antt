use Rattle.std.proofs.Common.{◌≡◌, drop}
use Rattle.type_model.specs.GoTypes.{fields_of}
use Rattle.type_model.specs.Tables.{types_in}
use Rattle.decl_rules.specs.Methods.{is_field_of}
use Rattle.decl_rules.proofs.methods.is_field_of.Given as goal

abbrev pub invariant-loop-i : goal.invariant-loop-i
invariant-loop-i l = is_field_of l.name l.owner (fields_of (types_in l.s.table) l.fields) ≡ is_field_of l.name l.owner (fields_of (types_in l.s.table) (drop l.i l.fields))
