-- What is said of a fault.
use Rattle.std.specs.Prelude.{ℕ, List, [], ◌∷◌, ◌++◌, codes, encode_utf8}
use Rattle.std.specs.Fmt.{decimal}
use Rattle.vet_printf.specs.declared.fault.Fault.{Fault}
use Rattle.vet_printf.specs.declared.fault.Fault.TheVariants as f

abbrev pub unknown_text : ℕ → List ℕ
unknown_text verb = codes "format has unknown verb %" ++ encode_utf8 verb

abbrev pub verb_text : ℕ → List ℕ → List ℕ
verb_text verb rest = codes "format %" ++ (encode_utf8 verb ++ rest)

abbrev pub flag_rest : ℕ → List ℕ
flag_rest flag = codes " does not take flag " ++ flag ∷ []

abbrev pub reads_text : ℕ → ℕ → List ℕ
reads_text n count = codes "format reads argument #" ++ (decimal n ++ (codes ", but call has " ++ decimal count))

abbrev pub star_text : List ℕ → List ℕ
star_text name = codes "format * has argument " ++ (name ++ codes " that is not int")

abbrev pub type_rest : List ℕ → List ℕ
type_rest name = codes " has argument " ++ (name ++ codes " of wrong type")

abbrev pub needs_text : ℕ → ℕ → List ℕ
needs_text n count = codes "call needs " ++ (decimal n ++ (codes " arguments but has " ++ decimal count))

abbrev pub possible_text : List ℕ → List ℕ
possible_text name = codes "possible formatting directive in " ++ (name ++ codes " call")

-- the text of a fault, where the argument that has it, or what is called, is spelled so
abbrev pub fault_text : List ℕ → Fault → List ℕ
fault_text name (f.Unknown verb) = unknown_text verb
fault_text name (f.Flag verb flag) = verb_text verb (flag_rest flag)
fault_text name f.Errorf = codes "format %w is only for errorf"
fault_text name (f.Reads n count) = reads_text n count
fault_text name (f.Star n) = star_text name
fault_text name (f.WrongType verb n) = verb_text verb (type_rest name)
fault_text name f.NoVerb = codes "format is missing a verb at its end"
fault_text name f.BadIndex = codes "format has a bad argument index"
fault_text name (f.Needs n count) = needs_text n count
fault_text name f.Possible = possible_text name
