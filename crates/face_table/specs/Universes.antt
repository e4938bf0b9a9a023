-- What `error` is declared with (Go 1.17, "Predeclared identifiers").
use Rattle.std.specs.Prelude.{false, [], ◌∷◌, codes}
use Rattle.type_model.specs.declared.term.Method.{Method}
use Rattle.type_model.specs.GoTypes.{GoType}
use Rattle.unit_read.specs.Units.{error_declaration}

-- its method, whose result is the type `string` under its number
abbrev pub error_method : Method
error_method = record { name = codes "Error"; «package» = []; pointer = false; of = record { params = []; results = record { 0 = 12 } ∷ []; variadic = false } }

abbrev pub error_under : GoType
error_under = error_declaration.under
