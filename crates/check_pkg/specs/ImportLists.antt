-- The imports of a file, as they are read: the names that they declare, and which of them are used.
use Rattle.std.specs.Prelude.{◌≡◌, ℕ, ◌<◌, ◌≤◌, ◌⊎◌, ◌↔◌, ◌==◌, nat_le, nat_lt, nat_eq, IsTrue, Bool, true, false, if◌then◌else◌, List, map, length, Option, Some, None, slice_get}
use Rattle.std.specs.HashSet.{HashSet, contains_by}
use Rattle.std.specs.List.{Contains}
use Rattle.go_tree.specs.declared.bindings.Object.{Object}
use Rattle.go_tree.specs.declared.bindings.Object.TheVariants as o
use Rattle.go_tree.specs.declared.tree.NodeRef.{NodeRef}
use Rattle.object_order.specs.Spots.{place}
use Rattle.go_tree.specs.Bindings.{IsBefore}
use Rattle.gv_base.specs.declared.place.Place.{Place}
use Rattle.package_faces.specs.declared.interface.Interface.{Interface}
use Rattle.typed_tree.specs.declared.rule.Rule.{Rule}
use Rattle.unit_read.specs.Imports.{bare, import_limit}
use Rattle.typed_marks.specs.declared.item.Item.{Item}
use Rattle.typed_marks.specs.Meanings.{Meaning}
use Rattle.unit_read.specs.Units.{Unit, name_at}
use Rattle.unit_rows.specs.Redeclared.{package_names}
use Rattle.check_pkg.specs.declared.import_names.Declared.{Declared}
use Rattle.check_pkg.specs.declared.refusal.Refusal.{Refusal}
use Rattle.check_pkg.specs.declared.refusal.Fault.TheVariants.{Rule as RuleFault}
use Rattle.check_pkg.specs.Gains.{SomeBelow}
use Rattle.check_pkg.specs.Faults.{place_of}
use Rattle.check_pkg.specs.Imports.{IsImport, import_name, IsUsed, HasImportFault}
use Rattle.check_pkg.specs.References.{uses_at}

-- ---- names

-- the path and the name of each package
abbrev pub named_in : List Interface → List (List ℕ × List ℕ)
named_in list = map (λ (i : Interface). (i.path, i.name)) list

abbrev pub pairs : List Declared → List (List ℕ × NodeRef)
pairs list = map (λ (d : Declared). (d.name.now, d.at)) list

-- the import declares the name
abbrev pub Names : Unit → ℕ → NodeRef → List ℕ → Type 0
Names u f at name = (at.file ≡ f) × IsImport (bare u) at × (import_name u at ≡ Some name)

-- the names that the imports of a file declare
pub record AreNames (u : Unit) (f : ℕ) (list : List Declared) : Type 0 where
  pub each : (at : NodeRef) (name : List ℕ) → Contains (pairs list) (name, at) ↔ Names u f at name

-- ---- uses

-- the import of this file that an object is
abbrev pub import_in : ℕ → Option Object → Option ℕ
import_in f None = None
import_in f (Some (o.Import at)) = if at.file == f then Some at.node else None
import_in f (Some (o.Universe i)) = None
import_in f (Some (o.Local at)) = None
import_in f (Some (o.Package at)) = None

-- one of the first few nodes of a file uses the import at a node
abbrev pub UsesBelow : Unit → (Item → Meaning) → ℕ → ℕ → ℕ → Type 0
UsesBelow u marks f n j = (k : ℕ) × (k < n) × (import_in f (uses_at u marks (place f k)) ≡ Some j)

abbrev pub has : {S : Type 0} → HashSet ℕ S → ℕ → Bool
has used node = contains_by (λ key. nat_eq node key) used

-- the import is noted, if there is one, and what was noted
abbrev pub Notes : Option ℕ → (ℕ → Bool) → (ℕ → Bool) → Type 0
Notes at old new = (j : ℕ) → IsTrue (new j) ↔ (IsTrue (old j) ⊎ (at ≡ Some j))

-- the nodes that are noted are those of the imports that the first few nodes of the file use
abbrev pub AreUsed : Unit → (Item → Meaning) → ℕ → ℕ → (ℕ → Bool) → Type 0
AreUsed u marks f n used = (j : ℕ) → IsTrue (used j) ↔ UsesBelow u marks f n j

-- ---- the first import by each name

-- the least of a node that is kept and another
abbrev pub least : Option ℕ → ℕ → ℕ
least None n = n
least (Some k) n = if nat_le k n then k else n

abbrev pub HasNode : List Declared → ℕ → List ℕ → ℕ → Type 0
HasNode list k q n = (j : ℕ) × (d : Declared) × (j < k) × (slice_get list j ≡ Some d) × (d.name.now ≡ q) × (d.at.node ≡ n)

-- the least node of those of the first few imports that have a name
abbrev pub IsLeast : List Declared → ℕ → List ℕ → Option ℕ → Type 0
IsLeast list k q None = (j : ℕ) → j < k → (d : Declared) → slice_get list j ≡ Some d → d.name.now ≡ q → ⊥
IsLeast list k q (Some n) = HasNode list k q n × ((j : ℕ) → j < k → (d : Declared) → slice_get list j ≡ Some d → d.name.now ≡ q → n ≤ d.at.node)

-- the least node of the imports of a file that have a name
abbrev pub IsFirst : Unit → ℕ → List ℕ → Option ℕ → Type 0
IsFirst u f q None = (at : NodeRef) → Names u f at q → ⊥
IsFirst u f q (Some n) = Names u f (place f n) q × ((at : NodeRef) → Names u f at q → n ≤ at.node)

abbrev pub is_before : Option ℕ → ℕ → Bool
is_before None n = false
is_before (Some k) n = nat_lt k n

-- ---- faults

-- a refusal where a rule is broken
abbrev pub RefusesIf : Bool → Place → Rule → Refusal → Type 0
RefusesIf broken at rule x = (broken ≡ true) × (x ≡ record { place = at; fault = RuleFault rule })

-- a name of the package block is spelled so
abbrev pub HasName : Unit → List ℕ → Type 0
HasName u name = (n : NodeRef) × Contains (package_names u) n × (name_at u n ≡ name)

-- an earlier import of the file has it
abbrev pub ComesLater : Unit → NodeRef → List ℕ → Type 0
ComesLater u at name = (other : NodeRef) × IsImport (bare u) other × (other.file ≡ at.file) × IsBefore other at × (import_name u other ≡ Some name)

-- E7 is broken
abbrev pub IsUnused : Unit → (Item → Meaning) → NodeRef → Type 0
IsUnused u marks at = (import_limit u at ≡ None) × (IsUsed u marks at → ⊥)

abbrev pub RefusesName : Unit → (Item → Meaning) → NodeRef → List ℕ → Refusal → Type 0
RefusesName u marks at name x = (x.place ≡ place_of (bare u) at) × HasImportFault u marks at name x.fault

abbrev pub RefusesNthName : Unit → (Item → Meaning) → List Declared → ℕ → Refusal → Type 0
RefusesNthName u marks list k x = (d : Declared) × (slice_get list k ≡ Some d) × RefusesName u marks d.at d.name.now x

abbrev pub RefusesImports : Unit → (Item → Meaning) → ℕ → Refusal → Type 0
RefusesImports u marks f x = (at : NodeRef) × (name : List ℕ) × Names u f at name × RefusesName u marks at name x

abbrev pub RefusesAllImports : Unit → (Item → Meaning) → Refusal → Type 0
RefusesAllImports u marks x = SomeBelow (length u.trees) (RefusesImports u marks) x
