-- Which types of arguments a class has.
use Rattle.std.specs.Prelude.{◌≡◌, ◌⊎◌, ◌&&◌, ◌||◌, not, Bool, true, false, if◌then◌else◌, List, [], ◌∷◌, codes, map, Option, Some, None, option_and_then, unwrap_or}
use Rattle.std.specs.List.{Contains}
use Rattle.std.specs.Option.{option_map_or}
use Rattle.std.specs.Str.{bytes_eq}
use Rattle.gv_base.specs.declared.constant.Kind.{Kind}
use Rattle.gv_base.specs.declared.constant.Kind.TheVariants as kind
use Rattle.gv_base.specs.Kinds.{is_nil}
use Rattle.type_model.specs.GoTypes.{GoType, GoTypes, GoSignature, BasicType, DefinedType, PointerTo, SliceOf, ArrayOf, MapOf, ChanOf, FuncOf, StructOf, InterfaceOf, NoType, AndType, From}
use Rattle.type_model.specs.Parts.{GoField, GoMethod, field_list}
use Rattle.type_model.specs.Declarations.{Declarations, under_of}
use Rattle.method_sets.specs.Selections.{IsInSet}
use Rattle.vet_printf.specs.declared.verb.Class.{Class}
use Rattle.vet_printf.specs.declared.asking.Wanted.{Wanted}
use Rattle.vet_printf.specs.declared.asking.Wanted.TheVariants as w
use Rattle.vet_printf.specs.Verbs.{takes_text, takes_pointer, takes_reference, takes_kind}

-- ---- methods that print

abbrev pub is_text_kind : Kind → Bool
is_text_kind kind.Text = true
is_text_kind _ = false

abbrev pub is_text : GoType → Bool
is_text (BasicType kind) = is_text_kind kind
is_text (DefinedType name) = false
is_text (PointerTo of) = false
is_text (SliceOf of) = false
is_text (ArrayOf size of) = false
is_text (MapOf key of) = false
is_text (ChanOf direction of) = false
is_text (FuncOf of) = false
is_text (StructOf fields) = false
is_text (InterfaceOf methods) = false

abbrev pub are_none : GoTypes → Bool
are_none NoType = true
are_none (AndType of types) = false

abbrev pub are_one_text : GoTypes → Bool
are_one_text NoType = false
are_one_text (AndType of types) = is_text of && are_none types

-- `func() string`
abbrev pub gives_text : GoSignature → Bool
gives_text (From params results variadic) = are_none params && are_one_text results

-- a method `Format`; `Error() string` or `String() string`; `Error() string`
abbrev pub is_wanted : Wanted → GoMethod → Bool
is_wanted w.Format m = bytes_eq m.name (codes "Format")
is_wanted w.Text m = (bytes_eq m.name (codes "Error") || bytes_eq m.name (codes "String")) && gives_text m.of
is_wanted w.Error m = bytes_eq m.name (codes "Error") && gives_text m.of

-- the set of the type has such a method
abbrev pub Has : Declarations → GoType → Wanted → Type 0
Has ds of wanted = (m : GoMethod) × IsInSet ds of m × (is_wanted wanted m ≡ true)

-- ---- types by their form

-- types that have neither members nor a name, by their form, and are no pointers
abbrev pub is_bare : GoType → Bool
is_bare (BasicType kind) = true
is_bare (DefinedType name) = false
is_bare (PointerTo of) = false
is_bare (SliceOf of) = true
is_bare (ArrayOf size of) = true
is_bare (MapOf key of) = true
is_bare (ChanOf direction of) = true
is_bare (FuncOf of) = true
is_bare (StructOf fields) = false
is_bare (InterfaceOf methods) = false

abbrev pub is_byte_kind : Kind → Bool
is_byte_kind kind.Uint8 = true
is_byte_kind _ = false

abbrev pub is_byte : GoType → Bool
is_byte (BasicType kind) = is_byte_kind kind
is_byte (DefinedType name) = false
is_byte (PointerTo of) = false
is_byte (SliceOf of) = false
is_byte (ArrayOf size of) = false
is_byte (MapOf key of) = false
is_byte (ChanOf direction of) = false
is_byte (FuncOf of) = false
is_byte (StructOf fields) = false
is_byte (InterfaceOf methods) = false

abbrev pub is_byte_type : Declarations → GoType → Bool
is_byte_type ds of = option_map_or is_byte (under_of ds of) false

-- structs, arrays, slices and maps, which are printed by their parts
abbrev pub is_parted : GoType → Bool
is_parted (BasicType kind) = false
is_parted (DefinedType name) = false
is_parted (PointerTo of) = false
is_parted (SliceOf of) = true
is_parted (ArrayOf size of) = true
is_parted (MapOf key of) = true
is_parted (ChanOf direction of) = false
is_parted (FuncOf of) = false
is_parted (StructOf fields) = true
is_parted (InterfaceOf methods) = false

abbrev pub is_parted_type : Declarations → GoType → Bool
is_parted_type ds of = option_map_or is_parted (under_of ds of) false

abbrev pub parts_of : GoType → List GoType
parts_of (BasicType kind) = []
parts_of (DefinedType name) = []
parts_of (PointerTo of) = []
parts_of (SliceOf of) = of ∷ []
parts_of (ArrayOf size of) = of ∷ []
parts_of (MapOf key of) = key ∷ of ∷ []
parts_of (ChanOf direction of) = []
parts_of (FuncOf of) = []
parts_of (StructOf fields) = map (λ (f : GoField). f.of) (field_list fields)
parts_of (InterfaceOf methods) = []

abbrev pub parts_in : Declarations → GoType → List GoType
parts_in ds of = option_map_or parts_of (under_of ds of) []

-- what a pointer points to, where that has parts
abbrev pub parted_behind : Declarations → GoType → Option GoType
parted_behind ds (BasicType kind) = None
parted_behind ds (DefinedType name) = None
parted_behind ds (PointerTo of) = if is_parted_type ds of then Some of else None
parted_behind ds (SliceOf of) = None
parted_behind ds (ArrayOf size of) = None
parted_behind ds (MapOf key of) = None
parted_behind ds (ChanOf direction of) = None
parted_behind ds (FuncOf of) = None
parted_behind ds (StructOf fields) = None
parted_behind ds (InterfaceOf methods) = None

abbrev pub pointed : Declarations → GoType → Option GoType
pointed ds of = option_and_then (parted_behind ds) (under_of ds of)

-- the class has an underlying type as it stands
abbrev pub fits_form : Declarations → Class → GoType → Bool
fits_form ds class (BasicType kind) = takes_kind class kind || is_nil kind
fits_form ds class (DefinedType name) = false
fits_form ds class (PointerTo of) = takes_reference class || (takes_pointer class && not (is_parted_type ds of))
fits_form ds class (SliceOf of) = takes_reference class || (takes_text class && is_byte_type ds of)
fits_form ds class (ArrayOf size of) = takes_text class && is_byte_type ds of
fits_form ds class (MapOf key of) = takes_reference class
fits_form ds class (ChanOf direction of) = takes_reference class
fits_form ds class (FuncOf of) = takes_reference class
fits_form ds class (StructOf fields) = false
fits_form ds class (InterfaceOf methods) = true

abbrev pub fits_type : Declarations → Class → GoType → Bool
fits_type ds class of = option_map_or (fits_form ds class) (under_of ds of) false

-- ---- types with their parts

-- the class has the type as it stands, or its methods print it
abbrev pub IsFit : Declarations → Class → GoType → Type 0
IsFit ds class of = (fits_type ds class of ≡ true) ⊎ (Has ds of w.Format ⊎ ((takes_text class ≡ true) × Has ds of w.Text))

-- The class doesn't have the type: it isn't fit, and has no parts, or a part that the class doesn't have. A type that is met again in its parts gives
-- no fault by that.
pub data Fails (ds : Declarations) (class : Class) : GoType → Type 0 where
  Alone : (of : GoType) → (IsFit ds class of → ⊥) → is_parted_type ds of ≡ false → Fails ds class of
  ByPart : (of part : GoType) → (IsFit ds class of → ⊥) → Contains (parts_in ds of) part → Fails ds class part → Fails ds class of

-- an argument of the type: a pointer stands for what it points to, where that has parts
abbrev pub FailsAlone : Declarations → Class → GoType → Type 0
FailsAlone ds class of = (IsFit ds class of → ⊥) × Fails ds class (unwrap_or (pointed ds of) of)

-- The class has arguments of the type.
abbrev pub Suits : Declarations → Class → GoType → Type 0
Suits ds class of = FailsAlone ds class of → ⊥
