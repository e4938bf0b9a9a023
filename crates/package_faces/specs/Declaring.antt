-- What packages that are imported declare: the first face of a path counts, and in it the first type of a name.
use Rattle.std.specs.Prelude.{ℕ, ◌==◌, if◌then◌else◌, List, map, Option, Some, None, slice_get, option_and_then, option_map}
use Rattle.std.specs.List.{position_from}
use Rattle.std.specs.Str.{bytes_eq}
use Rattle.type_model.specs.declared.term.TypeName.{TypeName}
use Rattle.type_model.specs.Declarations.{Declaration, Declarations}
use Rattle.package_faces.specs.Faces.{DefinedOut, Face}

-- the first of a list that has this name
abbrev pub first_named : {X : Type 0} → (X → List ℕ) → List X → List ℕ → Option X
first_named name_of list name = option_and_then (slice_get list) (position_from (λ spelling. bytes_eq spelling name) 0 (map name_of list))

abbrev pub path_of : Face → List ℕ
path_of f = f.path

abbrev pub defined_name : DefinedOut → List ℕ
defined_name d = d.name

abbrev pub declaration_out : DefinedOut → Declaration
declaration_out d = record { under = d.under; methods = d.methods }

-- what a package declares a name with
abbrev pub declared_in : List ℕ → Face → Option Declaration
declared_in name f = option_map declaration_out (first_named defined_name f.types name)

-- what one of these packages declares a name with, of types at package level
abbrev pub declared_by : List Face → Declarations
declared_by faces name = if name.local == 0 then option_and_then (declared_in name.name) (first_named path_of faces name.package) else None
