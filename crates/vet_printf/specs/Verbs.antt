-- What verbs take (package fmt of Go 1.17, "Printing"), as rows: the flags, and the argument.
use Rattle.std.specs.Prelude.{ℕ, ◌==◌, ◌/◌, ◌%◌, ◌&&◌, ◌||◌, not, Bool, true, false, if◌then◌else◌, List, [], ◌∷◌, codes, Option, Some, None, option_and_then}
use Rattle.std.specs.List.{list_any}
use Rattle.gv_base.specs.declared.constant.Kind.{Kind}
use Rattle.gv_base.specs.Kinds.{is_boolean, is_integer, is_string}
use Rattle.vet_printf.specs.declared.verb.Class.{Class}
use Rattle.vet_printf.specs.declared.verb.Class.TheVariants as c
use Rattle.vet_printf.specs.declared.verb.Takes.{Takes}
use Rattle.vet_printf.specs.declared.verb.Takes.TheVariants as takes
use Rattle.vet_printf.specs.declared.verb.Verb.{Verb}

-- ---- flags

-- sets of flags: 1 for +, 2 for -, 4 for #, 8 for 0 and 16 for the space
abbrev pub has_flag : ℕ → ℕ → Bool
has_flag flags weight = (flags / weight) % 2 == 1

-- ---- the table

abbrev pub is_one_of : List ℕ → ℕ → Bool
is_one_of verbs verb = list_any (λ v. v == verb) verbs

abbrev pub row : ℕ → Takes → Option Verb
row flags takes = Some (record { flags = flags; takes = takes })

abbrev pub number_row : ℕ → Option Verb
number_row verb =
    if is_one_of (codes "d") verb then row 27 (takes.Of c.IntegerPointer)
    else (if is_one_of (codes "boO") verb then row 31 (takes.Of c.IntegerPointer)
    else (if is_one_of (codes "xX") verb then row 31 (takes.Of c.IntegerTextPointer)
    else (if is_one_of (codes "eEfFgG") verb then row 31 (takes.Of c.Nothing)
    else None)))

abbrev pub text_row : ℕ → Option Verb
text_row verb =
    if is_one_of (codes "q") verb then row 31 (takes.Of c.IntegerText)
    else (if is_one_of (codes "s") verb then row 27 (takes.Of c.Text)
    else (if is_one_of (codes "c") verb then row 2 (takes.Of c.Integer)
    else (if is_one_of (codes "U") verb then row 6 (takes.Of c.Integer)
    else (if is_one_of (codes "p") verb then row 6 (takes.Of c.Reference)
    else number_row verb))))

-- the row of a verb; none where it isn't known
abbrev pub verb_of : ℕ → Option Verb
verb_of verb =
    if is_one_of (codes "%") verb then row 0 takes.NoArgument
    else (if is_one_of (codes "v") verb then row 31 takes.Any
    else (if is_one_of (codes "w") verb then row 31 takes.Error
    else (if is_one_of (codes "T") verb then row 2 takes.Any
    else (if is_one_of (codes "t") verb then row 2 (takes.Of c.Boolean)
    else text_row verb))))

-- ---- what the arguments of a class are

abbrev pub takes_boolean : Class → Bool
takes_boolean c.Boolean = true
takes_boolean _ = false

abbrev pub takes_integer : Class → Bool
takes_integer c.Integer = true
takes_integer c.IntegerPointer = true
takes_integer c.IntegerTextPointer = true
takes_integer c.IntegerText = true
takes_integer _ = false

abbrev pub takes_text : Class → Bool
takes_text c.IntegerTextPointer = true
takes_text c.IntegerText = true
takes_text c.Text = true
takes_text _ = false

abbrev pub takes_pointer : Class → Bool
takes_pointer c.IntegerPointer = true
takes_pointer c.IntegerTextPointer = true
takes_pointer c.Reference = true
takes_pointer _ = false

-- slices, maps, channels and functions
abbrev pub takes_reference : Class → Bool
takes_reference c.Reference = true
takes_reference _ = false

abbrev pub takes_kind : Class → Kind → Bool
takes_kind class kind = (takes_boolean class && is_boolean kind) || ((takes_integer class && is_integer kind) || (takes_text class && is_string kind))

-- ---- flags that a verb doesn't take

-- the flag stands there, though the verb doesn't take it
abbrev pub is_refused : Verb → ℕ → ℕ → Bool
is_refused verb flags weight = has_flag flags weight && not (has_flag verb.flags weight)

-- the first such flag, as it is written
abbrev pub refused_flag : Verb → ℕ → Option ℕ
refused_flag verb flags =
    if is_refused verb flags 1 then Some 43
    else (if is_refused verb flags 2 then Some 45
    else (if is_refused verb flags 4 then Some 35
    else (if is_refused verb flags 8 then Some 48
    else (if is_refused verb flags 16 then Some 32
    else None))))
