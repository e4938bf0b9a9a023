-- The first declaration of a method that has a name.
use Rattle.std.proofs.Common.{◌≡◌, ℕ, ◌+◌, ◌≤◌, Bool, true, false, if◌then◌else◌, List, drop, length, slice_get, Option, Some, None, ap, ◌∙◌}
use Rattle.std.specs.Str.{bytes_eq}
use Rattle.go_tree.specs.declared.tree.NodeRef.{NodeRef}
use Rattle.unit_read.specs.Methods.{method_name}
use Rattle.unit_read.specs.Units.{Unit}
use Rattle.selected_methods.specs.Selected.{first_called}
use Rattle.selected_methods.proofs.Lists.{drop_at, drop_end}

module _ (u : Unit) (name : List ℕ) (list : List NodeRef) (i : ℕ) where
  first_at : (at : NodeRef) (b : Bool) → slice_get list i ≡ Some at → bytes_eq (method_name u at) name ≡ b
      → first_called u name (drop i list) ≡ (if b then Some at else first_called u name (drop (i + 1) list))
  first_at at b is so =
      ap (λ (l : List NodeRef). first_called u name l) (drop_at list i at is)
      ∙ ap (λ (c : Bool). if c then Some at else first_called u name (drop (i + 1) list)) so

  pub first_here : (at : NodeRef) → slice_get list i ≡ Some at → bytes_eq (method_name u at) name ≡ true → first_called u name (drop i list) ≡ Some at
  first_here at is so = first_at at true is so

  pub first_next : (at : NodeRef) → slice_get list i ≡ Some at → bytes_eq (method_name u at) name ≡ false → first_called u name (drop i list) ≡ first_called u name (drop (i + 1) list)
  first_next at is so = first_at at false is so

  pub first_none : length list ≤ i → first_called u name (drop i list) ≡ None
  first_none low = ap (λ (l : List NodeRef). first_called u name l) (drop_end list i low)
