-- What code finds.
use Rattle.std.specs.Prelude.{◌≡◌, ℕ, Bool, true, false, List, Option, Some, option_map, length, slice_get}
use Rattle.std.specs.Global.{Vec}
use Rattle.method_sets.specs.declared.selection.Selected.{Selected}
use Rattle.method_sets.specs.declared.selection.Selected.TheVariants as selected
use Rattle.method_sets.specs.declared.selection.Selection.{Selection}
use Rattle.method_sets.specs.declared.selection.Selection.TheVariants as selection
use Rattle.vet_words.specs.declared.called.Function.{Function}

-- a function by the path of its package and its name
abbrev pub function_in : Function → List ℕ × List ℕ
function_in x = (x.path.now, x.name.now)

abbrev pub function_found : Option Function → Option (List ℕ × List ℕ)
function_found o = option_map function_in o

abbrev pub is_method_part : Selected → Bool
is_method_part (selected.Field of) = false
is_method_part (selected.Method of pointer) = true

-- a method is selected
abbrev pub is_method : Selection → Bool
is_method (selection.Found path kind) = is_method_part kind
is_method (selection.Ambiguous depth) = false
is_method selection.Absent = false

-- rows of flags, one for each of the first few files
pub record AreRowsOf (given : ℕ → List Bool) (rows : List (Vec Bool)) (count : ℕ) : Type 0 where
  pub size : length rows ≡ count
  pub each : (f : ℕ) (row : Vec Bool) → slice_get rows f ≡ Some row → row.items ≡ given f
