-- A table that has grown has the predeclared types still.
use Rattle.std.proofs.Common.{◌<◌, ◌∙◌, arith}
use Rattle.gv_base.specs.declared.constant.Kind.{Kind}
use Rattle.gv_base.specs.declared.constant.Kind.TheVariants as k
use Rattle.type_model.specs.declared.table.TypeTable.{TypeTable}
use Rattle.type_model.specs.Tables.{IsTable, Extends, count, terms_in}
use Rattle.typed_tree.specs.Basics.{HasBasics, number_of_kind, error_number}

below : (kind : Kind) → number_of_kind kind < error_number
below k.Bool = omega arith
below k.Int = omega arith
below k.Int8 = omega arith
below k.Int16 = omega arith
below k.Int32 = omega arith
below k.Int64 = omega arith
below k.Uint = omega arith
below k.Uint8 = omega arith
below k.Uint16 = omega arith
below k.Uint32 = omega arith
below k.Uint64 = omega arith
below k.Uintptr = omega arith
below k.Text = omega arith
below k.UntypedBool = omega arith
below k.UntypedInt = omega arith
below k.UntypedRune = omega arith
below k.UntypedText = omega arith
below k.UntypedNil = omega arith

pub grown_basics : (old new : TypeTable) → HasBasics old → IsTable new → Extends (terms_in old) (terms_in new) → HasBasics new
grown_basics old new has table extends = record {
  table = table;
  basic = λ kind. (extends (number_of_kind kind) (let low = below kind in let many : error_number < count old = has.many in omega arith)).1 ∙ has.basic kind;
  error = (extends error_number has.many).1 ∙ has.error;
  many = (extends error_number has.many).0;
}
