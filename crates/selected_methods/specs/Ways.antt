-- To which type embedded fields lead (Go 1.17, "Struct types", "Selectors").
use Rattle.std.specs.Prelude.{ℕ, List, [], ◌∷◌, Option, Some, option_map, option_and_then, slice_get}
use Rattle.type_model.specs.GoTypes.{GoType}
use Rattle.type_model.specs.Parts.{GoField}
use Rattle.type_model.specs.Declarations.{Declarations, under_of}
use Rattle.method_sets.specs.Members.{fields_from}
use Rattle.method_sets.specs.Paths.{base}

-- the type of a field, or what it points to
abbrev pub field_base : GoField → GoType
field_base f = base f.of

abbrev pub embedded_of : Option GoType → ℕ → Option GoType
embedded_of under k = option_map field_base (slice_get (fields_from under) k)

-- to which type the field of this number leads
abbrev pub embedded : Declarations → GoType → ℕ → Option GoType
embedded ds a k = embedded_of (under_of ds a) k

-- to which type the fields of these numbers lead, one after the other
abbrev pub led : Declarations → GoType → List ℕ → Option GoType
led ds a [] = Some a
led ds a (k ∷ path) = option_and_then (λ b. led ds b path) (embedded ds a k)
