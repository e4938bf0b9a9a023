-- What grows keeps what stood.
use Rattle.std.proofs.Common.{◌≡◌, ℕ, ◌<◌, ◌≤◌, ◌∷◌, ◌++◌, [], List, All, arith}
use Rattle.std.proofs.lemmas.List.Elements.{All-weaker, All-push}
use Rattle.type_model.specs.declared.term.TypeId.{TypeId}
use Rattle.type_model.specs.GoTypes.{AreBelow}

pub below_more : (m n : ℕ) (ids : List TypeId) → m ≤ n → AreBelow m ids → AreBelow n ids
below_more m n ids h below = All-weaker (λ (x : TypeId). x.0 < m) (λ (x : TypeId). x.0 < n) (λ x p. omega arith) ids below

pub below_push : (m n : ℕ) (ids : List TypeId) (id : TypeId) → m ≤ n → AreBelow m ids → id.0 < n → AreBelow n (ids ++ id ∷ [])
below_push m n ids id h below low = All-push (λ (x : TypeId). x.0 < n) ids id (below_more m n ids h below) low
