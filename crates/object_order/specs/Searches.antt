-- The graph of the spots that a search finds.
use Rattle.std.specs.Prelude.{◌≡◌, ℕ, ◌+◌, ◌*◌, ◌<◌, ◌^◌, ◌⊎◌, ◌++◌, if◌then◌else◌, List, [], ◌∷◌, map, Option, Some, length, slice_get}
use Rattle.object_order.specs.declared.rows.SpotRows.{SpotRows}
use Rattle.go_tree.specs.Spells.{Among}
use Rattle.object_order.specs.declared.spot.Mode.{Mode}
use Rattle.object_order.specs.declared.spot.Mode.TheVariants as m
use Rattle.object_order.specs.declared.spot.Spot.{Spot}
use Rattle.object_order.specs.Views.{same_key}
use Rattle.object_order.specs.SpotRows.{kept_in}

-- a number for each mode
abbrev pub code : Mode → ℕ
code m.Needs = 0
code m.Reach = 1
code m.Steps = 2
code m.Follow = 3
code m.Kin = 11
code m.Direct = 4
code m.Lengths = 5
code m.Whole = 6
code m.Aliases = 7
code m.AliasSteps = 8
code m.Embeds = 9
code m.Alone = 10

-- a spot as two numbers
abbrev pub key_of : Spot → ℕ × ℕ
key_of s = (s.at.file, s.at.node * 12 + code s.mode)

-- the number is kept under the key, and the other keys have what they had
abbrev pub IsKept : (ℕ × ℕ → Option ℕ) → (ℕ × ℕ → Option ℕ) → ℕ × ℕ → ℕ → Type 0
IsKept old new key number = (q : ℕ × ℕ) → new q ≡ (if same_key key q then Some number else old q)

-- Each spot that was found is kept under its place in the list, and nothing else is.
pub record AreNumbered (numbers : SpotRows) (found : List Spot) : Type 0 where
  pub few : length found < 2 ^ 32
  pub there : (i : ℕ) (s : Spot) → slice_get found i ≡ Some s → kept_in numbers (key_of s) ≡ Some i
  pub back : (i : ℕ) (s : Spot) → kept_in numbers (key_of s) ≡ Some i → slice_get found i ≡ Some s

-- a spot that is found was among these, or is one of those
abbrev pub ComeFrom : List Spot → List Spot → List Spot → Type 0
ComeFrom old new more = (i : ℕ) (s : Spot) → slice_get new i ≡ Some s → (slice_get old i ≡ Some s) ⊎ Among s more

-- more spots have been found, all of them among these
pub record Finds (numbers : SpotRows) (old new : List Spot) (these : List Spot) : Type 0 where
  pub more : List Spot
  pub grown : new ≡ old ++ more
  pub numbered : AreNumbered numbers new
  pub from : ComeFrom old new these

-- the row has the numbers of these spots in turn
abbrev pub IsRowOf : List Spot → List ℕ → List Spot → Type 0
IsRowOf found row these = map (λ j. slice_get found j) row ≡ map (λ s. Some s) these

-- the graph gains the row of these spots
abbrev pub AddsRow : List Spot → List Spot → List (List ℕ) → List (List ℕ) → Type 0
AddsRow found these rows longer = (row : List ℕ) × (longer ≡ rows ++ row ∷ []) × IsRowOf found row these

-- Where the search goes on from the first few spots is shown by rows of numbers.
pub record IsUnderWay (moves : Spot → List Spot) (seeds found : List Spot) (rows : List (List ℕ)) : Type 0 where
  pub shown : (i : ℕ) (s : Spot) (row : List ℕ) → slice_get found i ≡ Some s → slice_get rows i ≡ Some row → IsRowOf found row (moves s)
  pub seeded : (s : Spot) → Among s seeds → (i : ℕ) × (slice_get found i ≡ Some s)
  pub from : (i : ℕ) (s : Spot) → slice_get found i ≡ Some s → Among s seeds ⊎ ((t : Spot) × Among s (moves t))

-- The graph has a vertex for each spot that is found from the seeds, and it needs those to which the search goes on.
pub record IsExplored (moves : Spot → List Spot) (seeds found : List Spot) (numbers : SpotRows) (rows : List (List ℕ)) : Type 0 where
  pub size : length rows ≡ length found
  pub numbered : AreNumbered numbers found
  pub way : IsUnderWay moves seeds found rows
