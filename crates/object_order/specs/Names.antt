-- The numbers of declared names.
use Rattle.std.specs.Prelude.{◌≡◌, ◌≤◌, ℕ, Bool, true, false, List, [], ◌∷◌, Some, slice_get, unwrap_or, if◌then◌else◌}
use Rattle.std.specs.List.{flat_map}
use Rattle.std.specs.HashMap.{HashMap}
use Rattle.go_tree.specs.declared.tree.NodeRef.{NodeRef}
use Rattle.object_order.specs.declared.spot.Entry.{Entry}
use Rattle.object_order.specs.declared.spot.Form.{Form}
use Rattle.object_order.specs.declared.spot.Form.TheVariants as form
use Rattle.object_order.specs.declared.spot.Mode.TheVariants as m
use Rattle.object_order.specs.declared.spot.Spot.{Spot}
use Rattle.object_order.specs.Spots.{spot}
use Rattle.object_order.specs.Views.{number_in, same_key}

-- the name is declared
abbrev pub IsNamed : List Entry → NodeRef → Type 0
IsNamed entries o = (k : ℕ) × (e : Entry) × (slice_get entries k ≡ Some e) × (e.name ≡ o)

-- Each declared name has the number of its first declaration, and nothing else has a number.
pub record AreNamed {S : Type 0} (entries : List Entry) (numbers : HashMap (ℕ × ℕ) ℕ S) : Type 0 where
  pub has : (k : ℕ) (e : Entry) → slice_get entries k ≡ Some e → (n : ℕ) × (number_in numbers (e.name.file, e.name.node) ≡ Some n)
  pub «is» : (n : ℕ) (at : NodeRef) → number_in numbers (at.file, at.node) ≡ Some n → (e : Entry) × (slice_get entries n ≡ Some e) × (e.name ≡ at)
  pub first : (n j : ℕ) (e : Entry) → number_in numbers (e.name.file, e.name.node) ≡ Some n → slice_get entries j ≡ Some e → n ≤ j

-- the key of the name of a declaration
abbrev pub IsKeyAt : List Entry → ℕ → ℕ × ℕ → Type 0
IsKeyAt entries k key = (e : Entry) × (slice_get entries k ≡ Some e) × (key ≡ (e.name.file, e.name.node))

-- the key keeps its number, or has this one where it had none; the other keys have what they had
abbrev pub AddsName : {S : Type 0} → HashMap (ℕ × ℕ) ℕ S → HashMap (ℕ × ℕ) ℕ S → ℕ × ℕ → ℕ → Type 0
AddsName old new key k = (q : ℕ × ℕ) → number_in new q ≡ (if same_key key q then Some (unwrap_or (number_in old key) k) else number_in old q)

-- whether steps lead on from such a name: it is that of a type
abbrev pub has_steps : Form → Bool
has_steps form.Other = false
has_steps form.Defined = true
has_steps form.Alias = true

abbrev pub steps_of : Entry → List Spot
steps_of e = if has_steps e.form then spot m.Steps e.name ∷ [] else []

-- from each declared name the search for what it needs, and from a type that for where its steps lead
abbrev pub seeds_of : Entry → List Spot
seeds_of e = spot m.Needs e.name ∷ steps_of e

abbrev pub seeds : List Entry → List Spot
seeds entries = flat_map seeds_of entries
