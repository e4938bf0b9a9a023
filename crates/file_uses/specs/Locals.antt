-- What the names of a file denote within its functions.
use Rattle.std.specs.Prelude.{ℕ, ◌<◌, ◌≤◌, ◌≡◌, true, List, length, get_or, Option, Some, None, slice_get}
use Rattle.scopes.specs.declared.scope.Named.{Named}
use Rattle.scopes.specs.Denotes.{AreAnswered}
use Rattle.scopes.specs.declared.visible.Declaration.{Declaration}
use Rattle.scopes.specs.declared.visible.Use.{Use}

-- an earlier declaration of d's block is of its name
abbrev pub IsKnown : (ℕ → Option (List ℕ)) → List Named → ℕ → Named → Type 0
IsKnown name ds k d = (j : ℕ) × (e : Named) × (j < k) × (slice_get ds j ≡ Some e) × (e.end ≡ d.end) × (name e.node ≡ name d.node)

-- The k-th declaration stands within a function, and is the first of its name in its block.
abbrev pub IsLocal : (ℕ → Option (List ℕ)) → ℕ → List Named → ℕ → Named → Type 0
IsLocal name total ds k d = (slice_get ds k ≡ Some d) × (IsKnown name ds k d → ⊥) × (d.end < total)

-- the region of a declaration holds the node
abbrev pub HoldsNode : Named → ℕ → Type 0
HoldsNode d n = (d.start ≤ n) × (n < d.end)

-- A name at n denotes the k-th declaration: of the local ones of its name whose region holds n, that with the smallest region.
pub record DenotesLocal (name : ℕ → Option (List ℕ)) (total : ℕ) (ds : List Named) (n k : ℕ) : Type 0 where
  pub d : Named
  pub region : IsLocal name total ds k d
  pub named : name d.node ≡ name n
  pub holds : HoldsNode d n
  pub smallest : (j : ℕ) (e : Named) → IsLocal name total ds j e → name e.node ≡ name n → HoldsNode e n → (e.start ≤ d.start) × (d.end ≤ e.end)

abbrev pub LocalAnswer : (ℕ → Option (List ℕ)) → ℕ → List Named → ℕ → Option ℕ → Type 0
LocalAnswer name total ds n (Some k) = DenotesLocal name total ds n k
LocalAnswer name total ds n None = (k : ℕ) → DenotesLocal name total ds n k → ⊥

-- an earlier name on the left of the same `:=` is d's: their regions begin at one place
abbrev pub IsRepeated : (ℕ → Option (List ℕ)) → List Named → ℕ → Named → Type 0
IsRepeated name ds k d = (j : ℕ) × (e : Named) × (j < k) × (slice_get ds j ≡ Some e) × (e.soft ≡ true) × (e.start ≡ d.start) × (name e.node ≡ name d.node)

-- A name on the left of `:=` is assigned where its block has it already. It may stand there once.
abbrev pub IsAssigned : (ℕ → Option (List ℕ)) → List Named → ℕ → Type 0
IsAssigned name ds n = (k : ℕ) × (d : Named) × (slice_get ds k ≡ Some d) × (d.node ≡ n) × (d.soft ≡ true) × IsKnown name ds k d × (IsRepeated name ds k d → ⊥)

-- a use for each node, in order
abbrev pub AreAll : List ℕ → List Use → Type 0
AreAll numbers uses = (length uses ≡ length numbers) × ((k : ℕ) (u : Use) → slice_get uses k ≡ Some u → (u.name ≡ get_or numbers k 0) × (u.at ≡ k))

-- the answers to a use for each node
pub record AreAnsweredBy (ds : List Declaration) (numbers : List ℕ) (answers : List (Option ℕ)) : Type 0 where
  pub uses : List Use
  pub all : AreAll numbers uses
  pub answered : AreAnswered ds uses answers
