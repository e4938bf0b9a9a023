-- An interface that has a method isn't empty.
use Rattle.std.proofs.Common.{◌≡◌, ◌≤◌, false, List, [], ◌∷◌, length, refl, arith}
use Rattle.type_model.specs.declared.term.Method.{Method}
use Rattle.type_model.specs.GoTypes.{GoType, methods_of}
use Rattle.op_rules.specs.Types.{has_none}

pub some_method : (types : List GoType) (methods : List Method) → 1 ≤ length methods → false ≡ has_none (methods_of types methods)
some_method types [] low = absurd (omega arith)
some_method types (m ∷ methods) low = refl
