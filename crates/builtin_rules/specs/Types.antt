-- Types as calls look at them (Go 1.17, "Types").
use Rattle.std.specs.Prelude.{ℕ, Bool, true, false, Option, Some, None}
use Rattle.gv_base.specs.declared.constant.Kind.{Kind}
use Rattle.gv_base.specs.declared.constant.Kind.TheVariants as kind
use Rattle.type_model.specs.GoTypes.{GoType, GoSignature, BasicType, DefinedType, PointerTo, SliceOf, ArrayOf, MapOf, ChanOf, FuncOf, StructOf, InterfaceOf}

abbrev pub is_byte_kind : Kind → Bool
is_byte_kind kind.Uint8 = true
is_byte_kind _ = false

-- the signature of a function type
abbrev pub signature_in : GoType → Option GoSignature
signature_in (FuncOf of) = Some of
signature_in (BasicType kind) = None
signature_in (DefinedType name) = None
signature_in (PointerTo of) = None
signature_in (SliceOf of) = None
signature_in (ArrayOf size of) = None
signature_in (MapOf key of) = None
signature_in (ChanOf direction of) = None
signature_in (StructOf fields) = None
signature_in (InterfaceOf methods) = None

-- the key type of a map type
abbrev pub key_of : GoType → Option GoType
key_of (MapOf key of) = Some key
key_of (BasicType kind) = None
key_of (DefinedType name) = None
key_of (PointerTo of) = None
key_of (SliceOf of) = None
key_of (ArrayOf size of) = None
key_of (ChanOf direction of) = None
key_of (FuncOf of) = None
key_of (StructOf fields) = None
key_of (InterfaceOf methods) = None

-- the length of an array type
abbrev pub size_of : GoType → Option ℕ
size_of (ArrayOf size of) = Some size
size_of (BasicType kind) = None
size_of (DefinedType name) = None
size_of (PointerTo of) = None
size_of (SliceOf of) = None
size_of (MapOf key of) = None
size_of (ChanOf direction of) = None
size_of (FuncOf of) = None
size_of (StructOf fields) = None
size_of (InterfaceOf methods) = None

-- ---- operands
