-- What one value gives to several names (Go 1.17, "Assignments": "the right hand operand is a single multi-valued expression such as a function call, a channel or
-- map operation, or a type assertion. The number of operands on the left hand side must match the number of values").
use Rattle.std.specs.Prelude.{ℕ, ◌==◌, Bool, if◌then◌else◌, List, [], length, Option, Some, None, slice_get}
use Rattle.gv_base.specs.declared.constant.Kind.TheVariants as kind
use Rattle.type_model.specs.GoTypes.{GoType, GoSignature, BasicType, DefinedType, PointerTo, SliceOf, ArrayOf, MapOf, ChanOf, FuncOf, StructOf, InterfaceOf, From}
use Rattle.type_model.specs.Parts.{type_list}
use Rattle.typed_tree.specs.declared.mark.Mode.{Mode}
use Rattle.typed_tree.specs.declared.mark.Mode.TheVariants as mode
use Rattle.typed_marks.specs.Meanings.{Known}

abbrev pub results_in : GoSignature → List GoType
results_in (From params results variadic) = type_list results

-- the results of a function type
abbrev pub results_of : GoType → List GoType
results_of (FuncOf of) = results_in of
results_of (BasicType kind) = []
results_of (DefinedType name) = []
results_of (PointerTo of) = []
results_of (SliceOf of) = []
results_of (ArrayOf size of) = []
results_of (MapOf key of) = []
results_of (ChanOf direction of) = []
results_of (StructOf fields) = []
results_of (InterfaceOf methods) = []

-- "The value of ok is true if ..": the second value is an untyped boolean
abbrev pub ok_type : GoType
ok_type = BasicType kind.Bool

-- of a value that a second one may go with, the first and the second
abbrev pub with_ok : GoType → ℕ → Option GoType
with_ok of i = if i == 0 then Some of else (if i == 1 then Some ok_type else None)

-- A call of several results has the type of its function, and these results.
abbrev pub given_by : Mode → Known → ℕ → ℕ → Option GoType
given_by mode.Many x count i = if length (results_of x.of) == count then slice_get (results_of x.of) i else None
given_by mode.CommaOk x count i = if count == 2 then with_ok x.last i else None
given_by mode.MapIndex x count i = if count == 2 then with_ok x.last i else None
given_by mode.NoValue x count i = None
given_by mode.TypeName x count i = None
given_by mode.Constant x count i = None
given_by mode.Variable x count i = None
given_by mode.Value x count i = None
given_by mode.Nil x count i = None
given_by mode.Builtin x count i = None
given_by mode.Package x count i = None

-- the type of what it gives to the name at a place, of so many; None where it doesn't give so many values
abbrev pub given_to : Known → ℕ → ℕ → Option GoType
given_to x count i = given_by x.mode x count i
