-- Names that are no types and lead back to themselves.
use Rattle.std.specs.Prelude.{◌↔◌, ℕ, Bool, true, false, not, if◌then◌else◌, List, [], ◌∷◌, map, Option, Some, None, option_and_then}
use Rattle.std.specs.Global.{Vec}
use Rattle.std.specs.HashMap.{HashMap}
use Rattle.std.specs.List.{cons_option, flat_map, list_all}
use Rattle.std.specs.Option.{option_map_or}
use Rattle.go_tree.specs.Spells.{Among}
use Rattle.go_tree.specs.declared.tree.NodeRef.{NodeRef}
use Rattle.object_order.specs.declared.needed.Needed.{Needed}
use Rattle.object_order.specs.declared.spot.Entry.{Entry}
use Rattle.object_order.specs.declared.spot.Form.{Form}
use Rattle.object_order.specs.declared.spot.Form.TheVariants as f
use Rattle.object_order.specs.declared.spot.Root.{Root}
use Rattle.object_order.specs.Cases.{Is}
use Rattle.object_order.specs.Picks.{flag_in}
use Rattle.object_order.specs.Quiet.{quiet_at}
use Rattle.object_order.specs.Spots.{World, place}
use Rattle.object_order.specs.Views.{number_in, entry_in}
use Rattle.name_circles.specs.Circles.{Circles}

-- exactly the constants, variables, functions and methods that lead back to themselves
abbrev pub AreValueCircles : World → List NodeRef → Type 0
AreValueCircles w list = (o : NodeRef) → Among o list ↔ (Is w o f.Other × Circles w o)

-- ---- in code: where no type leads to a value, a circle has values alone, and each of them mentions one

abbrev pub is_value : Form → Bool
is_value f.Other = true
is_value f.Defined = false
is_value f.Alias = false

abbrev pub value_entry : Entry → Bool
value_entry e = is_value e.form

-- the flag of the declaration of a name
abbrev pub flagged_in : {S : Type 0} → HashMap (ℕ × ℕ) ℕ S → List Bool → NodeRef → Bool
flagged_in numbers flags u = option_map_or (flag_in flags) (number_in numbers (u.file, u.node)) false

-- what a node mentions, if its declaration is flagged
abbrev pub chosen : {S : Type 0} → HashMap (ℕ × ℕ) ℕ S → List Bool → Option NodeRef → Option NodeRef
chosen numbers flags o = option_and_then (λ (u : NodeRef). if flagged_in numbers flags u then Some u else None) o

abbrev pub chosen_items : {S : Type 0} → HashMap (ℕ × ℕ) ℕ S → List Bool → Vec (Option NodeRef) → List (Option NodeRef)
chosen_items numbers flags row = map (chosen numbers flags) row.items

abbrev pub cells_of : Vec (Option NodeRef) → List (Option NodeRef)
cells_of row = row.items

-- nothing that counts is mentioned in a declaration, outside bodies
abbrev pub is_still : List (Vec Bool) → Entry → Bool
is_still quiet e = list_all (λ (r : Root). quiet_at quiet (place e.name.file r.node)) e.roots

-- nor in that of a type
abbrev pub is_settled : List (Vec Bool) → Entry → Bool
is_settled quiet e = if is_value e.form then true else is_still quiet e

-- nor in that of a method
abbrev pub is_still_name : {S : Type 0} → List Entry → HashMap (ℕ × ℕ) ℕ S → List (Vec Bool) → NodeRef → Bool
is_still_name entries numbers quiet m = option_map_or (is_still quiet) (entry_in entries numbers m) true

abbrev pub is_still_group : {S : Type 0} → List Entry → HashMap (ℕ × ℕ) ℕ S → List (Vec Bool) → Vec NodeRef → Bool
is_still_group entries numbers quiet group = list_all (is_still_name entries numbers quiet) group.items

abbrev pub are_apart : {S : Type 0} → List Entry → HashMap (ℕ × ℕ) ℕ S → List (Vec NodeRef) → List (Vec Bool) → Bool
are_apart entries numbers groups quiet = if list_all (is_settled quiet) entries then list_all (is_still_group entries numbers quiet) groups else false

-- a value whose declaration mentions one
abbrev pub leads_on : List (Vec Bool) → Entry → Bool
leads_on quiet e = if is_value e.form then not (is_still quiet e) else false

-- the declaration of a name, if it is flagged
abbrev pub if_kept : {S : Type 0} → List Entry → HashMap (ℕ × ℕ) ℕ S → List Bool → Entry → List Entry
if_kept entries numbers flags e = if flagged_in numbers flags e.name then cons_option (entry_in entries numbers e.name) [] else []

abbrev pub kept_entries : {S : Type 0} → List Entry → HashMap (ℕ × ℕ) ℕ S → List Bool → List Entry
kept_entries entries numbers flags = flat_map (if_kept entries numbers flags) entries

abbrev pub if_cyclic : Needed → List NodeRef
if_cyclic e = if e.cyclic then e.object ∷ [] else []
