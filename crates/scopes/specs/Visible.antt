-- The visible declarations of a name, the innermost last.
use Rattle.std.specs.Prelude.{◌≡◌, ℕ, ◌<◌, ◌≤◌, Bool, true, false, List, [], ◌∷◌, ◌++◌, slice_get, Some}
use Rattle.std.specs.List.{Contains}
use Rattle.std.specs.Global.{Vec}
use Rattle.scopes.specs.declared.visible.Declaration.{Declaration}
use Rattle.scopes.specs.declared.visible.Use.{Use}
use Rattle.scopes.specs.Denotes.{HasRegion, Inner}

abbrev pub Ended : List Declaration → ℕ → ℕ → Type 0
Ended ds at k = (d : Declaration) × (slice_get ds k ≡ Some d) × (d.end ≤ at)

abbrev pub Lasts : List Declaration → ℕ → ℕ → Type 0
Lasts ds at k = (d : Declaration) × (slice_get ds k ≡ Some d) × (at < d.end)

-- declarations were taken off a stack, which have ended here
pub record Taken (ds : List Declaration) (at : ℕ) (old new : List ℕ) : Type 0 where
  pub off : List ℕ
  pub same : old ≡ new ++ off
  pub ended : (k : ℕ) → Contains off k → Ended ds at k

-- the last one that is left hasn't ended
abbrev pub TopLasts : List Declaration → ℕ → List ℕ → Type 0
TopLasts ds at stack = (s : List ℕ) (k : ℕ) → stack ≡ s ++ k ∷ [] → Lasts ds at k

-- the test whether the last one has ended
abbrev pub TopTest : List Declaration → ℕ → List ℕ → Bool → Type 0
TopTest ds at stack true = (s : List ℕ) × (k : ℕ) × (stack ≡ s ++ k ∷ []) × Ended ds at k
TopTest ds at stack false = TopLasts ds at stack

-- each number stands in R to those above it
abbrev pub Chained : (ℕ → ℕ → Type 0) → List ℕ → Type 0
Chained R [] = Unit {0}
Chained R (k ∷ ks) = ((j : ℕ) → Contains ks j → R k j) × Chained R ks

-- the j-th region lies within the k-th and begins later
abbrev pub Encloses : List Declaration → ℕ → ℕ → Type 0
Encloses ds k j = (d e : Declaration) → slice_get ds k ≡ Some d → slice_get ds j ≡ Some e → Inner e d

-- The stack has the declarations of the name, among the first few, whose regions go on after this place; each region encloses those above it.
pub record IsVisible (ds : List Declaration) (next at name : ℕ) (stack : List ℕ) : Type 0 where
  pub only : (k : ℕ) → Contains stack k → (d : Declaration) × HasRegion ds k d × (d.name ≡ name) × (k < next)
  pub chain : Chained (Encloses ds) stack
  pub all : (k : ℕ) (d : Declaration) → k < next → HasRegion ds k d → d.name ≡ name → at < d.end → Contains stack k

abbrev pub AllVisible : List Declaration → ℕ → ℕ → List (Vec ℕ) → Type 0
AllVisible ds next at visible = (name : ℕ) (stack : Vec ℕ) → slice_get visible name ≡ Some stack → IsVisible ds next at name stack.items

-- The walk has come to this place: the first few declarations, which have begun, are on the stacks, as long as they go on.
pub record Reached (ds : List Declaration) (next at : ℕ) (stacks : List (Vec ℕ)) : Type 0 where
  pub from : ℕ
  pub low : from ≤ at
  pub begun : (k : ℕ) (d : Declaration) → k < next → slice_get ds k ≡ Some d → d.start ≤ at
  pub later : (k : ℕ) (d : Declaration) → next ≤ k → slice_get ds k ≡ Some d → from ≤ d.start
  pub visible : AllVisible ds next from stacks

-- no other declaration has begun
abbrev pub NoneLeft : List Declaration → ℕ → ℕ → Type 0
NoneLeft ds next at = (k : ℕ) (d : Declaration) → next ≤ k → slice_get ds k ≡ Some d → at < d.start

-- the k-th declaration is there and has a region
abbrev pub IfRegion : List Declaration → ℕ → Type 0
IfRegion ds k = (d : Declaration) × HasRegion ds k d

-- the first few declarations are visible at the place where the k-th begins
abbrev pub VisibleAt : List Declaration → ℕ → ℕ → List (Vec ℕ) → Type 0
VisibleAt ds k next visible = (d : Declaration) → slice_get ds k ≡ Some d → AllVisible ds next d.start visible

abbrev pub AllEmpty : List (Vec ℕ) → Type 0
AllEmpty stacks = (name : ℕ) (stack : Vec ℕ) → slice_get stacks name ≡ Some stack → stack.items ≡ []

-- The walk has come so far through the uses: the next one lies here or later.
pub record Walked (ds : List Declaration) (uses : List Use) (seen next : ℕ) (stacks : List (Vec ℕ)) : Type 0 where
  pub at : ℕ
  pub reached : Reached ds next at stacks
  pub ahead : (k : ℕ) (u : Use) → seen ≤ k → slice_get uses k ≡ Some u → at ≤ u.at
