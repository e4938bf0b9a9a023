-- An untyped operand beside another (Go 1.17, "Operators", "Comparison operators").
use Rattle.std.specs.Prelude.{Bool, ◌&&◌, ◌||◌, if◌then◌else◌, Option, Some, None}
use Rattle.gv_base.specs.declared.constant.Const.{Const}
use Rattle.gv_base.specs.declared.constant.Kind.{Kind}
use Rattle.type_model.specs.GoTypes.{GoType}
use Rattle.type_rel.specs.Assigning.{holds_nil}
use Rattle.type_rel.specs.Kinds.{is_untyped, is_integer}
use Rattle.typed_tree.specs.Operands.{fits_in, is_boolean, is_nil}
use Rattle.op_rules.specs.Operands.{Operand}
use Rattle.op_rules.specs.Types.{is_empty_interface, are_alike}
use Rattle.rule_words.specs.Types.{is_of}

-- What is no constant is a comparison, which takes a boolean type, or a shift, which takes an integer type.
unfoldable pub kind_goes : Kind → Kind → Bool
kind_goes kind to = (is_boolean kind && is_boolean to) || (is_integer kind && is_integer to)

-- an untyped operand that isn't nil, beside a basic type: a constant is representable
unfoldable pub fits_beside : Option Const → Kind → Kind → Bool
fits_beside None kind to = kind_goes kind to
fits_beside (Some c) kind to = fits_in c to

unfoldable pub basic_goes : Operand → GoType → Bool
basic_goes x at = is_of (λ kind. is_of (fits_beside x.value kind) at) x.of

-- beside the empty interface it takes its default type
unfoldable pub value_goes : Operand → GoType → Bool
value_goes x at = is_empty_interface at || basic_goes x at

-- nil goes beside a pointer, function, slice, map, channel or interface
unfoldable pub goes_beside : Operand → GoType → Bool
goes_beside x at = if is_of is_nil x.of then holds_nil at else value_goes x at

-- an untyped operand agrees with another: two untyped ones are of one class
unfoldable pub agrees : Operand → Operand → Bool
agrees x y = if is_of is_untyped y.of then are_alike x.of y.of else goes_beside x y.at
