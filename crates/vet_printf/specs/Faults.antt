-- What is wrong with a directive of a format, and with the arguments that a call gives to its format.
use Rattle.std.specs.Prelude.{ℕ, ◌-◌, nat_lt, ◌&&◌, not, Bool, true, false, if◌then◌else◌, List, [], ◌∷◌, length, Option, Some, None, slice_get}
use Rattle.std.specs.Option.{option_map_or}
use Rattle.printf_format.specs.declared.format.Directive.{Directive}
use Rattle.vet_printf.specs.declared.fault.Argument.{Argument}
use Rattle.vet_printf.specs.declared.fault.Classes.{Classes}
use Rattle.vet_printf.specs.declared.fault.Fault.{Fault}
use Rattle.vet_printf.specs.declared.fault.Fault.TheVariants as f
use Rattle.vet_printf.specs.declared.verb.Class.{Class}
use Rattle.vet_printf.specs.declared.verb.Class.TheVariants as c
use Rattle.vet_printf.specs.declared.verb.Takes.{Takes}
use Rattle.vet_printf.specs.declared.verb.Takes.TheVariants as takes
use Rattle.vet_printf.specs.declared.verb.Verb.{Verb}
use Rattle.vet_printf.specs.Verbs.{verb_of, refused_flag}

-- ---- arguments

abbrev pub in_class : Classes → Class → Bool
in_class x c.Boolean = x.boolean
in_class x c.Integer = x.integer
in_class x c.IntegerPointer = x.integer_pointer
in_class x c.IntegerTextPointer = x.integer_text_pointer
in_class x c.IntegerText = x.integer_text
in_class x c.Text = x.text
in_class x c.Reference = x.reference
in_class x c.Nothing = x.nothing

-- what the verb takes has the argument
abbrev pub takes_argument : Takes → Argument → Bool
takes_argument takes.NoArgument x = true
takes_argument takes.Any x = true
takes_argument takes.Error x = x.error
takes_argument (takes.Of class) x = in_class x.classes class

-- the arguments behind the format count from 1
abbrev pub argument_at : List Argument → ℕ → Option Argument
argument_at list n = slice_get list (n - 1)

abbrev pub is_integer_at : List Argument → ℕ → Bool
is_integer_at list n = option_map_or (λ (x : Argument). x.integer) (argument_at list n) true

abbrev pub is_taken_at : List Argument → Takes → ℕ → Bool
is_taken_at list takes n = option_map_or (takes_argument takes) (argument_at list n) true

-- ---- faults of a directive, in the order in which they are looked for

abbrev pub or_else : Option Fault → Option Fault → Option Fault
or_else (Some fault) other = Some fault
or_else None other = other

abbrev pub fault_if : Bool → Fault → Option Fault
fault_if b fault = if b then Some fault else None

abbrev pub flag_said : ℕ → Option ℕ → Option Fault
flag_said verb (Some flag) = Some (f.Flag verb flag)
flag_said verb None = None

-- a flag that the verb doesn't take
abbrev pub flag_fault : Verb → Directive → Option Fault
flag_fault verb d = flag_said d.verb (refused_flag verb d.flags)

abbrev pub wants_error : Takes → Bool
wants_error takes.NoArgument = false
wants_error takes.Any = false
wants_error takes.Error = true
wants_error (takes.Of class) = false

-- an error where none is made
abbrev pub errorf_fault : Bool → Verb → Option Fault
errorf_fault errorf verb = fault_if (wants_error verb.takes && not errorf) f.Errorf

-- an argument that isn't there
abbrev pub beyond : ℕ → ℕ → Option Fault
beyond count n = fault_if (nat_lt count n) (f.Reads n count)

abbrev pub beyond_stars : ℕ → List ℕ → Option Fault
beyond_stars count [] = None
beyond_stars count (n ∷ stars) = or_else (beyond count n) (beyond_stars count stars)

-- a star's argument that is no integer
abbrev pub star_fault : List Argument → ℕ → Option Fault
star_fault list n = fault_if (not (is_integer_at list n)) (f.Star n)

abbrev pub star_faults : List Argument → List ℕ → Option Fault
star_faults list [] = None
star_faults list (n ∷ stars) = or_else (star_fault list n) (star_faults list stars)

-- an argument that the verb doesn't take
abbrev pub type_fault : List Argument → Verb → Directive → Option Fault
type_fault list verb d = fault_if (not (is_taken_at list verb.takes d.argument)) (f.WrongType d.verb d.argument)

abbrev pub count_fault : List Argument → Directive → Option Fault
count_fault list d = or_else (beyond_stars (length list) d.stars) (beyond (length list) d.argument)

abbrev pub argument_fault : List Argument → Verb → Directive → Option Fault
argument_fault list verb d = or_else (count_fault list d) (or_else (star_faults list d.stars) (type_fault list verb d))

abbrev pub known_fault : Bool → List Argument → Verb → Directive → Option Fault
known_fault errorf list verb d = or_else (flag_fault verb d) (or_else (errorf_fault errorf verb) (argument_fault list verb d))

abbrev pub fault_by : Bool → List Argument → Directive → Option Verb → Option Fault
fault_by errorf list d (Some verb) = known_fault errorf list verb d
fault_by errorf list d None = Some (f.Unknown d.verb)

-- The first fault of a directive.
abbrev pub directive_fault : Bool → List Argument → Directive → Option Fault
directive_fault errorf list d = fault_by errorf list d (verb_of d.verb)

-- That of the first of these directives that has one.
abbrev pub first_fault : Bool → List Argument → List Directive → Option Fault
first_fault errorf list [] = None
first_fault errorf list (d ∷ directives) = or_else (directive_fault errorf list d) (first_fault errorf list directives)
