-- Types as operators count them (Go 1.17, "Types", "Constants", "Constant expressions").
use Rattle.std.specs.Prelude.{Bool, true, false, ◌&&◌, ◌||◌, if◌then◌else◌}
use Rattle.std.specs.Option.{option_map_or}
use Rattle.gv_base.specs.declared.constant.Kind.{Kind}
use Rattle.type_model.specs.GoTypes.{GoType, GoMethods, BasicType, DefinedType, PointerTo, SliceOf, ArrayOf, MapOf, ChanOf, FuncOf, StructOf, InterfaceOf, NoMethod, AndMethod}
use Rattle.same_types.specs.Same.{same_type}
use Rattle.type_rel.specs.Kinds.{is_untyped, is_integer}
use Rattle.type_rel.specs.Terms.{kind_of}
use Rattle.typed_tree.specs.Operands.{is_text, is_boolean, is_nil, is_rune}
use Rattle.rule_words.specs.Types.{is_of}

unfoldable pub is_basic : GoType → Bool
is_basic of = option_map_or (λ kind. true) (kind_of of) false

abbrev pub has_none : GoMethods → Bool
has_none NoMethod = true
has_none (AndMethod name owner pointer of methods) = false

-- the types are one
unfoldable pub are_one : GoType → GoType → Bool
are_one a b = same_type a b

-- "Interface types": the empty interface, which all types implement
unfoldable pub is_empty_interface : GoType → Bool
is_empty_interface (InterfaceOf methods) = has_none methods
is_empty_interface (BasicType kind) = false
is_empty_interface (DefinedType name) = false
is_empty_interface (PointerTo of) = false
is_empty_interface (SliceOf of) = false
is_empty_interface (ArrayOf size of) = false
is_empty_interface (MapOf key of) = false
is_empty_interface (ChanOf direction of) = false
is_empty_interface (FuncOf of) = false
is_empty_interface (StructOf fields) = false

-- "Constant expressions": the type of both, that of a typed one, else a rune where one is a rune
unfoldable pub common : GoType → GoType → GoType
common a b = if is_of is_untyped a then (if is_of is_untyped b && is_of is_rune a then a else b) else a

-- two kinds of one class
abbrev pub alike : Kind → Kind → Bool
alike a b = (is_integer a && is_integer b) || ((is_text a && is_text b) || ((is_boolean a && is_boolean b) || (is_nil a && is_nil b)))

unfoldable pub are_alike : GoType → GoType → Bool
are_alike a b = is_of (λ x. is_of (alike x) b) a
