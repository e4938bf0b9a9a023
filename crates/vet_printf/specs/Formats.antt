-- What is wrong with a whole format over a call's arguments, and with a text that is printed as it stands.
use Rattle.std.specs.Prelude.{ℕ, nat_lt, ◌&&◌, not, is_some, Bool, if◌then◌else◌, List, [], ◌∷◌, codes, length, Option, Some}
use Rattle.std.specs.List.{list_any}
use Rattle.printf_format.specs.declared.format.Directive.{Directive}
use Rattle.printf_format.specs.declared.whole.Ending.{Ending}
use Rattle.printf_format.specs.declared.whole.Ending.TheVariants as e
use Rattle.printf_format.specs.declared.whole.FormatRead.{FormatRead}
use Rattle.vet_printf.specs.declared.fault.Argument.{Argument}
use Rattle.vet_printf.specs.declared.fault.Fault.{Fault}
use Rattle.vet_printf.specs.declared.fault.Fault.TheVariants as f
use Rattle.vet_printf.specs.Verbs.{has_flag, is_one_of, verb_of}
use Rattle.vet_printf.specs.Faults.{or_else, fault_if, first_fault}

-- ---- arguments that are left

abbrev pub larger : ℕ → ℕ → ℕ
larger a b = if nat_lt a b then b else a

abbrev pub most_star : ℕ → List ℕ → ℕ
most_star so_far [] = so_far
most_star so_far (n ∷ stars) = most_star (larger so_far n) stars

abbrev pub most_of : ℕ → Directive → ℕ
most_of so_far d = larger (most_star so_far d.stars) d.argument

-- the last argument that is read, where none is read by an index: as many are read
abbrev pub most_read : ℕ → List Directive → ℕ
most_read so_far [] = so_far
most_read so_far (d ∷ directives) = most_read (most_of so_far d) directives

abbrev pub is_indexed : List Directive → Bool
is_indexed directives = list_any (λ (d : Directive). d.indexed) directives

abbrev pub is_left : List Argument → List Directive → Bool
is_left list directives = not (is_indexed directives) && nat_lt (most_read 0 directives) (length list)

-- no index was used, and arguments are left
abbrev pub left_over : List Argument → List Directive → Option Fault
left_over list directives = fault_if (is_left list directives) (f.Needs (most_read 0 directives) (length list))

-- ---- a format

abbrev pub ending_fault : List Argument → List Directive → Ending → Option Fault
ending_fault list directives e.Over = left_over list directives
ending_fault list directives (e.NoVerb at) = Some f.NoVerb
ending_fault list directives (e.BadIndex at) = Some f.BadIndex

-- The first fault of a format: of its directives in turn, else of its end.
abbrev pub format_fault : Bool → List Argument → FormatRead → Option Fault
format_fault errorf list r = or_else (first_fault errorf list r.directives) (ending_fault list r.directives r.ending)

-- ---- a text that is printed as it stands

-- of a known verb other than %, without the space flag
abbrev pub is_possible : Directive → Bool
is_possible d = is_some (verb_of d.verb) && (not (is_one_of (codes "%") d.verb) && not (has_flag d.flags 16))

abbrev pub has_possible : FormatRead → Bool
has_possible r = list_any is_possible r.directives
