-- Lists of types by number.
use Rattle.std.proofs.Common.{◌≡◌, ℕ, ◌<◌, zero, suc, List, [], ◌∷◌, length, slice_get, option_map, IfSome, refl, ap, arith}
use Rattle.std.proofs.lemmas.List.Elements.{All-tail}
use Rattle.type_model.specs.declared.term.TypeId.{TypeId}
use Rattle.type_model.specs.GoTypes.{GoType, type_at, types_at, AreBelow}
use Rattle.call_rules.specs.Types.{how_many, nth_type}

pub how_many_at : (types : List GoType) (ids : List TypeId) → length ids ≡ how_many (types_at types ids)
how_many_at types [] = refl
how_many_at types (id ∷ ids) = ap (λ n. suc n) (how_many_at types ids)

pub nth_at : (types : List GoType) (ids : List TypeId) (i : ℕ) → option_map (type_at types) (slice_get ids i) ≡ nth_type (types_at types ids) i
nth_at types [] i = refl
nth_at types (id ∷ ids) zero = refl
nth_at types (id ∷ ids) (suc i) = nth_at types ids i

pub nth_below : (n : ℕ) (ids : List TypeId) (i : ℕ) → AreBelow n ids → IfSome (slice_get ids i) (λ id. id.0 < n)
nth_below n [] i below = tt
nth_below n (id ∷ ids) zero below = below 0 id (omega arith)
nth_below n (id ∷ ids) (suc i) below = nth_below n ids i (All-tail (λ (id : TypeId). id.0 < n) id ids below)
