-- The built-in functions, a line each (Go 1.17, "Built-in functions").
use Rattle.std.specs.Prelude.{ℕ, ◌==◌, nat_le, ◌&&◌, Bool, true, false, if◌then◌else◌, List, [], ◌∷◌, Option, Some, None, option_and_then, slice_get}
use Rattle.std.specs.Option.{option_map_or}
use Rattle.builtin_rules.specs.declared.lines.Builtin.{Builtin}
use Rattle.builtin_rules.specs.declared.lines.Builtin.TheVariants as b
use Rattle.builtin_rules.specs.declared.lines.Gives.TheVariants as gives
use Rattle.builtin_rules.specs.declared.lines.Line.{Line}
use Rattle.builtin_rules.specs.declared.lines.Must.TheVariants as must
use Rattle.builtin_rules.specs.declared.lines.Taking.{Taking}
use Rattle.builtin_rules.specs.declared.lines.Taking.TheVariants as takes

-- "Predeclared identifiers", in byte order; those that lie outside the profile have no line
abbrev pub builtins : List (Option Builtin)
builtins =
    Some b.Append
    ∷ None  -- bool
    ∷ None  -- byte
    ∷ Some b.Cap
    ∷ Some b.Close
    ∷ None  -- complex
    ∷ None  -- complex128
    ∷ None  -- complex64
    ∷ Some b.Copy
    ∷ Some b.Delete
    ∷ None  -- error
    ∷ None  -- false
    ∷ None  -- float32
    ∷ None  -- float64
    ∷ None  -- imag
    ∷ None  -- int
    ∷ None  -- int16
    ∷ None  -- int32
    ∷ None  -- int64
    ∷ None  -- int8
    ∷ None  -- iota
    ∷ Some b.Len
    ∷ Some b.Make
    ∷ Some b.New
    ∷ None  -- nil
    ∷ Some b.Panic
    ∷ Some b.Print
    ∷ Some b.Println
    ∷ None  -- real
    ∷ Some b.Recover
    ∷ []

unfoldable pub builtin_of : ℕ → Option Builtin
builtin_of i = option_and_then (λ (o : Option Builtin). o) (slice_get builtins i)

-- The line of each: how many arguments it takes, whether the last may have `...`, what the places of the first and of the others want, what
-- the arguments must be, and what it gives.
unfoldable pub line_of : Builtin → Line
-- "Appending to and copying slices"
line_of b.Append = record { least = 1; most = None; spread = true; first = takes.Value; others = takes.Element; must = must.Slice; gives = gives.Same }
line_of b.Copy = record { least = 2; most = Some 2; spread = false; first = takes.Value; others = takes.Value; must = must.Pair; gives = gives.Int }
-- "Length and capacity"
line_of b.Len = record { least = 1; most = Some 1; spread = false; first = takes.Value; others = takes.Value; must = must.Measured; gives = gives.Count }
line_of b.Cap = record { least = 1; most = Some 1; spread = false; first = takes.Value; others = takes.Value; must = must.Capacious; gives = gives.Count }
-- "Close"
line_of b.Close = record { least = 1; most = Some 1; spread = false; first = takes.Value; others = takes.Value; must = must.Sender; gives = gives.Nothing }
-- "Deletion of map elements"
line_of b.Delete = record { least = 2; most = Some 2; spread = false; first = takes.Value; others = takes.Key; must = must.Map; gives = gives.Nothing }
-- "Making slices, maps and channels"
line_of b.Make = record { least = 1; most = Some 3; spread = false; first = takes.Type; others = takes.Size; must = must.Made; gives = gives.Same }
-- "Allocation"
line_of b.New = record { least = 1; most = Some 1; spread = false; first = takes.Type; others = takes.Value; must = must.Good; gives = gives.Pointer }
-- "Handling panics"
line_of b.Panic = record { least = 1; most = Some 1; spread = false; first = takes.Any; others = takes.Any; must = must.Anything; gives = gives.Nothing }
line_of b.Recover = record { least = 0; most = Some 0; spread = false; first = takes.Value; others = takes.Value; must = must.Anything; gives = gives.Any }
-- "Bootstrapping"
line_of b.Print = record { least = 0; most = None; spread = false; first = takes.Value; others = takes.Value; must = must.Anything; gives = gives.Nothing }
line_of b.Println = record { least = 0; most = None; spread = false; first = takes.Value; others = takes.Value; must = must.Anything; gives = gives.Nothing }

-- what the place of an argument wants
abbrev pub taken_at : Line → ℕ → Taking
taken_at l slot = if slot == 1 then l.first else l.others

-- ---- E52, E51

-- E52: a built-in other than append
abbrev pub may_spread : Line → Bool → Bool
may_spread l spread = if spread then l.spread else true

abbrev pub is_at_most : ℕ → Option ℕ → Bool
is_at_most n most = option_map_or (nat_le n) most true

-- E51: `append(s, t...)` has two
unfoldable pub takes_as_many : Line → Bool → ℕ → Bool
takes_as_many l spread n = if spread then n == 2 else nat_le l.least n && is_at_most n l.most
