-- Lists of types by number.
use Rattle.std.proofs.Common.{◌≡◌, ℕ, ◌<◌, zero, suc, List, [], ◌∷◌, slice_get, Some, subst, arith}
use Rattle.std.proofs.lemmas.List.Elements.{All-tail}
use Rattle.type_model.specs.declared.term.TypeId.{TypeId}
use Rattle.type_model.specs.GoTypes.{AreBelow}

-- what holds of all holds of each
pub below_at : (n : ℕ) (ids : List TypeId) (i : ℕ) (id : TypeId) → slice_get ids i ≡ Some id → AreBelow n ids → id.0 < n
below_at n [] i id is below = absurd cc
below_at n (x ∷ ids) zero id is below = let same : x ≡ id = cc in subst (λ (y : TypeId). y.0 < n) same (below 0 x (omega arith))
below_at n (x ∷ ids) (suc i) id is below = below_at n ids i id is (All-tail (λ (y : TypeId). y.0 < n) x ids below)
