-- A table grows by no step, and by two steps.
use Rattle.std.proofs.Common.{◌≡◌, ◌<◌, ◌∙◌, refl}
use Rattle.type_model.specs.declared.table.TypeTable.{TypeTable}
use Rattle.type_model.specs.Tables.{IsTable, Grown, terms_in}
use Rattle.type_model.proofs.TypeLaws.{extends-itself}

pub grown_itself : (t : TypeTable) → IsTable t → Grown t t
grown_itself t table = record { table = table; extends = extends-itself (terms_in t); declared = λ i. refl; declarations = λ name. refl }

pub grown_then : (a b c : TypeTable) → Grown a b → Grown b c → Grown a c
grown_then a b c first second = record {
  table = second.table;
  extends = λ i lt. let one = first.extends i lt in let two = second.extends i one.0 in (two.0, two.1 ∙ one.1);
  declared = λ i. second.declared i ∙ first.declared i;
  declarations = λ name. second.declarations name ∙ first.declarations name;
}

pub grown_table : (a b : TypeTable) → Grown a b → IsTable b
grown_table a b grown = grown.table
