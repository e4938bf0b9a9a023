-- The order of first looks.
use Rattle.std.proofs.Common.{◌≡◌, ◌⊎◌, inl, inr, ◌<◌, ◌+◌, ℕ, zero, suc, List, [], ◌∷◌, ◌++◌, length, Some, refl, sym, subst, arith}
use Rattle.std.specs.Prelude.{slice_get}
use Rattle.std.specs.List.{Contains}
use Rattle.std.proofs.lemmas.List.Elements.{Contains-push_cases}
use Rattle.std.proofs.lemmas.Option.{slice_get_within}
use Rattle.need_order.specs.Graphs.{Needs, IsClosed}
use Rattle.need_order.specs.declared.needed.Needed.{Needed}
use Rattle.never_returns.specs.Bodies.{row_of}
use Rattle.never_returns.proofs.NumberLemmas.{either, same_some}

row_is : (rows : List (List ℕ)) (a : ℕ) (row : List ℕ) → slice_get rows a ≡ Some row → row_of rows a ≡ row
row_is [] a row e = absurd (let low = slice_get_within [] a row e in omega (arith, low))
row_is (r ∷ rows) zero row e = same_some e
row_is (r ∷ rows) (suc a) row e = row_is rows a row e

-- readers are functions
pub closed_so : (rows : List (List ℕ)) → ((j i : ℕ) → Contains (row_of rows j) i → i < length rows) → IsClosed rows
closed_so rows within = record { within = λ a b n. within a b (subst (λ l. Contains l b) (sym (row_is rows a n.0 n.1)) n.2) }

-- the vertex of an item of an order
abbrev pub IsVertex : List Needed → ℕ → Type 0
IsVertex order i = (k : ℕ) × (e : Needed) × (slice_get order k ≡ Some e) × (e.vertex ≡ i)

abbrev pub AreVertices : List Needed → List ℕ → Type 0
AreVertices order found = (i : ℕ) → Contains found i → IsVertex order i

pub no_vertices : (order : List Needed) (found : List ℕ) → found ≡ [] → AreVertices order found
no_vertices order found none i w = absurd (let c = subst (λ l. Contains l i) none w in let low = c.1 in omega (arith, low))

pub one_vertex : (order : List Needed) (k : ℕ) (e : Needed) (found new : List ℕ) → slice_get order k ≡ Some e → new ≡ found ++ e.vertex ∷ [] → AreVertices order found → AreVertices order new
one_vertex order k e found new at pushed are i w = either (Contains-push_cases found e.vertex i (subst (λ l. Contains l i) pushed w))
    (λ was. are i was)
    (λ same. (k, e, at, same))
