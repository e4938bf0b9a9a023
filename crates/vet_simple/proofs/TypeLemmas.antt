-- Lists of types that are empty.
use Rattle.std.proofs.Common.{◌≡◌, ◌==◌, List, [], ◌∷◌, length, refl, arith}
use Rattle.std.proofs.lemmas.Bool.Decides.{nat_tests}
use Rattle.type_model.specs.declared.term.TypeId.{TypeId}
use Rattle.type_model.specs.GoTypes.{GoType, types_at}
use Rattle.vet_simple.specs.Unused.{are_none}

pub none_counted : (types : List GoType) (list : List TypeId) → (length list == 0) ≡ are_none (types_at types list)
none_counted types [] = refl
none_counted types (id ∷ list) = grind (arith, nat_tests)
