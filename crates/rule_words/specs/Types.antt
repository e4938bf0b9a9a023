-- Types as rules look at them (Go 1.17, "Types", "Constants").
use Rattle.std.specs.Prelude.{Bool, true, false, if◌then◌else◌, Option}
use Rattle.std.specs.Option.{option_map_or}
use Rattle.gv_base.specs.declared.constant.Kind.{Kind}
use Rattle.type_model.specs.GoTypes.{GoType, BasicType, DefinedType, PointerTo, SliceOf, ArrayOf, MapOf, ChanOf, FuncOf, StructOf, InterfaceOf}
use Rattle.type_rel.specs.Kinds.{is_untyped}
use Rattle.type_rel.specs.Terms.{kind_of}

-- a basic type whose kind passes a test
unfoldable pub is_of : (Kind → Bool) → GoType → Bool
is_of passes of = option_map_or passes (kind_of of) false

unfoldable pub is_interface : GoType → Bool
is_interface (InterfaceOf methods) = true
is_interface (BasicType kind) = false
is_interface (DefinedType name) = false
is_interface (PointerTo of) = false
is_interface (SliceOf of) = false
is_interface (ArrayOf size of) = false
is_interface (MapOf key of) = false
is_interface (ChanOf direction of) = false
is_interface (FuncOf of) = false
is_interface (StructOf fields) = false

-- an untyped operand takes its default type where this underlying type is wanted
unfoldable pub takes_default : Option GoType → Bool
takes_default under = option_map_or is_interface under false

-- the type at which an operand counts: an untyped one by its own, a typed one by its underlying type
unfoldable pub counted : GoType → GoType → GoType
counted of under = if is_of is_untyped of then of else under
