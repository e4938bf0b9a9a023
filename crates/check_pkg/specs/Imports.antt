-- The faults of imports (Go 1.17, "Import declarations", "Declarations and scope", "Uniqueness of identifiers").
use Rattle.std.specs.Prelude.{◌≡◌, ℕ, ◌⊎◌, List, Option, Some, None, bytes_eq, codes, false}
use Rattle.std.specs.List.{Contains}
use Rattle.std.specs.Option.{option_map_or}
use Rattle.go_tree.specs.Bindings.{IsBefore}
use Rattle.go_tree.specs.Head.{import_line}
use Rattle.go_tree.specs.declared.bindings.Object.TheVariants as o
use Rattle.go_tree.specs.declared.tree.FileTree.{FileTree}
use Rattle.go_tree.specs.declared.tree.NodeRef.{NodeRef}
use Rattle.bind.specs.Imports.{line_name, specs_in}
use Rattle.typed_tree.specs.declared.rule.TheConstants.{REDECLARED, UNUSED_IMPORT}
use Rattle.unit_read.specs.Imports.{bare, import_limit}
use Rattle.typed_marks.specs.declared.item.Item.{Item}
use Rattle.typed_marks.specs.Meanings.{Meaning}
use Rattle.unit_read.specs.Units.{Unit, text_in, tree_at, name_at}
use Rattle.unit_rows.specs.Redeclared.{package_names}
use Rattle.check_pkg.specs.declared.refusal.Fault.{Fault}
use Rattle.check_pkg.specs.declared.refusal.Fault.TheVariants.{Rule as RuleFault}
use Rattle.check_pkg.specs.declared.refusal.Refusal.{Refusal}
use Rattle.check_pkg.specs.Faults.{place_of}
use Rattle.check_pkg.specs.Packages.{known_of}
use Rattle.check_pkg.specs.References.{uses_at}

-- the name that an import declares
abbrev pub import_name : Unit → NodeRef → Option (List ℕ)
import_name u at = option_map_or (λ (tree : FileTree). line_name (known_of u.env) (import_line tree (text_in u at.file) at.node)) (tree_at u at.file) None

abbrev pub IsImport : Unit → NodeRef → Type 0
IsImport u at = (tree : FileTree) × (tree_at u at.file ≡ Some tree) × Contains (specs_in tree tree.tops) at.node

-- the package block has the name; a constant, variable or type `init` declares none (Go 1.17, "Package initialization")
abbrev pub IsDeclared : Unit → List ℕ → Type 0
IsDeclared u name = (n : NodeRef) × Contains (package_names u) n × (name_at u n ≡ name) × (bytes_eq name (codes "init") ≡ false)

-- E1: the package block has the name, or an earlier import of the file
abbrev pub IsTaken : Unit → NodeRef → List ℕ → Type 0
IsTaken u at name =
    IsDeclared (bare u) name
    ⊎ ((other : NodeRef) × IsImport (bare u) other × (other.file ≡ at.file) × IsBefore other at × (import_name u other ≡ Some name))

-- a use in the file denotes the import; the name of a field before a colon is none
abbrev pub IsUsed : Unit → (Item → Meaning) → NodeRef → Type 0
IsUsed u marks at = (n : NodeRef) × (n.file ≡ at.file) × (uses_at u marks n ≡ Some (o.Import at))

-- E1 of an import whose name is taken; E7 of one that declares a name, lies in the profile and isn't used
abbrev pub HasImportFault : Unit → (Item → Meaning) → NodeRef → List ℕ → Fault → Type 0
HasImportFault u marks at name fault =
    ((fault ≡ RuleFault REDECLARED) × IsTaken u at name)
    ⊎ ((fault ≡ RuleFault UNUSED_IMPORT) × (import_limit (bare u) at ≡ None) × (IsUsed (bare u) marks at → ⊥))

-- an import refuses the package, at its first token
abbrev pub IsRefusedImport : Unit → (Item → Meaning) → Refusal → Type 0
IsRefusedImport u marks x =
    (at : NodeRef) × (name : List ℕ) × IsImport (bare u) at × (import_name u at ≡ Some name) × (x.place ≡ place_of (bare u) at) × HasImportFault u marks at name x.fault
