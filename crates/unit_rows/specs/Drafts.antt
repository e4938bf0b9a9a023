-- What is known of a package while its rows are made.
use Rattle.std.specs.Prelude.{◌≡◌, ℕ, Bool, true, false, List, Option}
use Rattle.std.specs.Global.{Vec}
use Rattle.std.specs.HashMap.{HashMap}
use denote.Ref.{Bor}
use Rattle.package_faces.specs.Faces.{Face}
use Rattle.go_tree.specs.declared.bindings.Object.{Object}
use Rattle.go_tree.specs.declared.tree.FileTree.{FileTree}
use Rattle.go_tree.specs.declared.tree.NodeRef.{NodeRef}
use Rattle.unit_read.specs.declared.subject.Subject.{Subject}
use Rattle.unit_read.specs.Index.{AddsName}
use Rattle.unit_read.specs.Subjects.{cell, flag, unit_of}
use Rattle.unit_read.specs.Units.{Unit, name_at, place_at, is_top}

-- the package of these files, uses, faces of others, flags and types of methods
abbrev pub package_unit : List ℕ → List (List ℕ) → List FileTree → List (NodeRef × Object) → List Face → List (Vec Bool) → List (Vec Bool)
    → List (Vec Bool) → List (Vec (Option NodeRef)) → Unit
package_unit path texts trees uses env redeclared cyclic circular owners =
    record { path = path; texts = texts; trees = trees; uses = uses; env = env; redeclared = flag redeclared; cyclic = flag cyclic; circular = flag circular; owner = cell owners }

-- the package with these flags
abbrev pub with_flags : Unit → List (Vec Bool) → List (Vec Bool) → List (Vec Bool) → Unit
with_flags u redeclared cyclic circular =
    record { path = u.path; texts = u.texts; trees = u.trees; uses = u.uses; env = u.env; redeclared = flag redeclared; cyclic = flag cyclic; circular = flag circular; owner = u.owner }

-- the package with these types of methods
abbrev pub with_owners : Unit → List (Vec (Option NodeRef)) → Unit
with_owners u owners =
    record { path = u.path; texts = u.texts; trees = u.trees; uses = u.uses; env = u.env; redeclared = u.redeclared; cyclic = u.cyclic; circular = u.circular; owner = cell owners }

-- the rows of places are made
abbrev pub IsPlaced : Subject → Type 0
IsPlaced s = (at : NodeRef) → cell s.places.items at ≡ place_at (unit_of s) at

-- the type of a name at package level is kept under it, unless one is kept
pub record AddsType {S : Type 0} (u : Unit) (old new : HashMap (Bor (List ℕ)) NodeRef S) (at : NodeRef) : Type 0 where
  pub top : is_top u at ≡ true → AddsName old new (name_at u at) at
  pub inner : is_top u at ≡ false → new ≡ old
