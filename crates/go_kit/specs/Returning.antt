-- Each interface stands beside the text that it was read of.
use Rattle.std.specs.Prelude.{◌≡◌, ℕ, List, Some, slice_get}
use Rattle.action_graph.specs.Nodes.{Named}
use Rattle.package_faces.specs.declared.interface.Interface.{Interface}
use Rattle.type_model.specs.declared.table.TypeTable.{TypeTable}
use Rattle.go_kit.specs.Keeping.{IsKnown}

abbrev pub AreRead : TypeTable → List Named → List Interface → Type 0
AreRead t env faces = (n : ℕ) (pair : Named) (face : Interface) → slice_get env n ≡ Some pair → slice_get faces n ≡ Some face → IsKnown t (record { text = pair.1; face = face })
