-- What a use denotes: the declaration of its name with the smallest region that holds it.
use Rattle.std.specs.Prelude.{◌≡◌, ℕ, ◌<◌, ◌≤◌, ◌⊎◌, Bool, true, false, List, length, slice_get, slice_index_or, Option, Some, None, ◌↔◌}
use Rattle.scopes.specs.declared.visible.Declaration.{Declaration}
use Rattle.scopes.specs.declared.visible.Use.{Use}

-- the region of a declaration holds this place in the text
abbrev pub Holds : Declaration → ℕ → Type 0
Holds d at = (d.start ≤ at) × (at < d.end)

-- d's region lies in e's
abbrev pub Within : Declaration → Declaration → Type 0
Within d e = (e.start ≤ d.start) × (d.end ≤ e.end)

-- An earlier declaration of the same block has the name. A block is told by where it ends.
abbrev pub IsRefused : List Declaration → ℕ → Declaration → Type 0
IsRefused ds k d = (j : ℕ) × (e : Declaration) × (j < k) × (slice_get ds j ≡ Some e) × (e.end ≡ d.end) × (e.name ≡ d.name)

-- d is the k-th declaration, within a function, and the first of its name in its block
abbrev pub HasRegion : List Declaration → ℕ → Declaration → Type 0
HasRegion ds k d = (slice_get ds k ≡ Some d) × (IsRefused ds k d → ⊥) × (d.local ≡ true)

-- the use denotes the k-th declaration
pub record Denotes (ds : List Declaration) (u : Use) (k : ℕ) : Type 0 where
  pub d : Declaration
  pub region : HasRegion ds k d
  pub named : d.name ≡ u.name
  pub holds : Holds d u.at
  pub smallest : (j : ℕ) (e : Declaration) → HasRegion ds j e → e.name ≡ u.name → Holds e u.at → Within d e

abbrev pub Answers : List Declaration → Use → Option ℕ → Type 0
Answers ds u (Some k) = Denotes ds u k
Answers ds u None = (k : ℕ) → Denotes ds u k → ⊥

-- e's region begins in d's and ends earlier
abbrev pub Inner : Declaration → Declaration → Type 0
Inner e d = (d.start ≤ e.start) × (e.end < d.end)

-- Declarations in the order in which their regions begin: of two, in different blocks, the later region lies apart or within.
abbrev pub IsLaid : List Declaration → Type 0
IsLaid ds = (j k : ℕ) (d e : Declaration) → j < k → slice_get ds j ≡ Some d → slice_get ds k ≡ Some e
    → (d.start ≤ e.start) × ((d.end ≡ e.end) ⊎ ((d.end ≤ e.start) ⊎ Inner e d))

abbrev pub HasNames : List Declaration → ℕ → Type 0
HasNames ds count = (k : ℕ) (d : Declaration) → slice_get ds k ≡ Some d → d.name < count

-- which declarations are the first of their name in their block
abbrev pub IsFlags : List Declaration → List Bool → Type 0
IsFlags ds first = (length first ≡ length ds) × ((k : ℕ) (d : Declaration) → slice_get ds k ≡ Some d
    → ((slice_index_or first k false ≡ true) ↔ (IsRefused ds k d → ⊥)) × (slice_index_or first k false ≡ false → IsRefused ds k d))

-- uses in the order of the text, of the first few names
abbrev pub AreUses : List Use → ℕ → Type 0
AreUses uses count = ((k : ℕ) (u : Use) → slice_get uses k ≡ Some u → u.name < count) × ((j k : ℕ) (u v : Use) → j ≤ k → slice_get uses j ≡ Some u → slice_get uses k ≡ Some v → u.at ≤ v.at)

-- each use has its answer
abbrev pub AreAnswered : List Declaration → List Use → List (Option ℕ) → Type 0
AreAnswered ds uses answers = (length answers ≡ length uses) × ((k : ℕ) (u : Use) → slice_get uses k ≡ Some u → Answers ds u (slice_index_or answers k None))
