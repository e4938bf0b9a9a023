-- How the regions of a file's names lie.
use Rattle.std.specs.Prelude.{◌≡◌, ℕ, ◌<◌, ◌≤◌, ◌⊎◌, List, Some, slice_get, nat_lt}
use Rattle.scopes.specs.declared.scope.Named.{Named}
use Rattle.scopes.specs.declared.visible.Declaration.{Declaration}

-- the region of e, which stands later in the list, is of d's block, or lies after d's, or begins in it and ends earlier
abbrev pub Lies : Named → Named → Type 0
Lies d e = (d.start ≤ e.start) × ((d.end ≡ e.end) ⊎ ((d.end ≤ e.start) ⊎ (e.end < d.end)))

-- The names stand in the order in which their regions begin, and their regions lie apart or within one another.
abbrev pub AreLaid : List Named → Type 0
AreLaid ds = (j k : ℕ) (d e : Named) → j < k → slice_get ds j ≡ Some d → slice_get ds k ≡ Some e → Lies d e

-- a declared name by its number, in a file of so many nodes
abbrev pub numbered : (ℕ → ℕ) → ℕ → Named → Declaration
numbered number total d = record { name = number d.node; start = d.start; «end» = d.end; local = nat_lt d.end total }
