-- What is selected, in code.
use Rattle.std.specs.Prelude.{◌≡◌, ◌↔◌, ℕ, List, length, slice_get, Option, Some, None}
use Rattle.std.specs.Global.{Vec}
use Rattle.go_tree.specs.declared.tree.FileTree.{FileTree}
use Rattle.go_tree.specs.declared.tree.NodeRef.{NodeRef}
use Rattle.object_order.specs.Spots.{place}
use Rattle.type_model.specs.declared.table.TypeTable.{TypeTable}
use Rattle.type_model.specs.GoTypes.{GoType}
use Rattle.type_model.specs.Tables.{declarations_in}
use Rattle.method_sets.specs.declared.selection.Selected.{Selected}
use Rattle.method_sets.specs.declared.selection.Selected.TheVariants as selected
use Rattle.method_sets.specs.declared.selection.Selection.{Selection}
use Rattle.method_sets.specs.declared.selection.Selection.TheVariants as selection
use Rattle.unit_read.specs.Units.{Unit}
use Rattle.selected_methods.specs.Selected.{method_led}

abbrev pub method_found : Unit → TypeTable → List ℕ → GoType → List ℕ → Selected → Option NodeRef
method_found u t name of path (selected.Field field) = None
method_found u t name of path (selected.Method method pointer) = method_led u (declarations_in t) name of path

-- the method of a selection from a type
abbrev pub method_chosen : Unit → TypeTable → List ℕ → GoType → Selection → Option NodeRef
method_chosen u t name of (selection.Found path kind) = method_found u t name of path kind
method_chosen u t name of (selection.Ambiguous depth) = None
method_chosen u t name of selection.Absent = None

-- it is what is so, or nothing where nothing is so
abbrev pub IsWhat : {X : Type 0} → (X → Type 0) → Option X → Type 0
IsWhat {X} P o = (x : X) → (o ≡ Some x) ↔ P x

-- a cell for each of the first few nodes
pub record AreMethods (P : ℕ → NodeRef → Type 0) (row : List (Option NodeRef)) (count : ℕ) : Type 0 where
  pub size : length row ≡ count
  pub each : (n : ℕ) (o : Option NodeRef) → slice_get row n ≡ Some o → IsWhat (P n) o

-- a row for each of the first few files
pub record AreMethodRows (P : NodeRef → NodeRef → Type 0) (trees : List FileTree) (rows : List (Vec (Option NodeRef))) (count : ℕ) : Type 0 where
  pub size : length rows ≡ count
  pub each : (f : ℕ) (tree : FileTree) (row : Vec (Option NodeRef)) → slice_get trees f ≡ Some tree → slice_get rows f ≡ Some row → AreMethods (λ n. P (place f n)) row.items (length tree.nodes)
