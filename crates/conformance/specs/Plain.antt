-- What the rows ask of the types that they declare.
use Rattle.std.specs.Prelude.{Bool, true, false}
use Rattle.type_model.specs.GoTypes.{GoType, BasicType, DefinedType, PointerTo, SliceOf, ArrayOf, MapOf, ChanOf, FuncOf, StructOf, InterfaceOf}

-- neither a defined type nor one that holds others
abbrev pub is_plain : GoType → Bool
is_plain (BasicType kind) = true
is_plain (DefinedType name) = false
is_plain (PointerTo of) = true
is_plain (SliceOf of) = true
is_plain (ArrayOf size of) = false
is_plain (MapOf key of) = true
is_plain (ChanOf direction of) = true
is_plain (FuncOf of) = true
is_plain (StructOf fields) = false
is_plain (InterfaceOf methods) = true
