-- What an environment is when it has been read.
use Rattle.std.specs.Prelude.{◌≡◌, ℕ, List, map, Option, Some, length, slice_get, option_and_then}
use Rattle.std.specs.HashMap.{HashMap}
use denote.Ref.{Bor}
use Rattle.go_tree.specs.Lexeme.{place_of}
use Rattle.package_faces.specs.declared.interface.Interface.{Interface}
use Rattle.package_faces.specs.declared.interface.Exported.{Exported}
use Rattle.package_faces.specs.Faces.{Face}
use Rattle.package_faces.specs.Interfaces.{faces_of, AreInterfacesIn}
use Rattle.type_model.specs.GoTypes.{types_of}
use Rattle.unit_read.specs.declared.environment.Environment.{Environment}
use Rattle.unit_read.specs.Imports.{paths_of}
use Rattle.unit_read.specs.Index.{found}

-- the paths of interfaces, and the names of what they export
abbrev pub interface_paths : List Interface → List (List ℕ)
interface_paths list = map (λ (i : Interface). i.path) list

abbrev pub names_of : List Exported → List (List ℕ)
names_of list = map (λ (e : Exported). e.name) list

-- the object of a name
abbrev pub object_in : List ℕ → Interface → Option Exported
object_in name i = option_and_then (slice_get i.objects) (place_of (names_of i.objects) name)

-- the objects of an interface by name
abbrev pub IsMember : {S : Type 0} → Interface → HashMap (Bor (List ℕ)) ℕ S → Type 0
IsMember i names = (q : List ℕ) → found names q ≡ place_of (names_of i.objects) q

-- those of the first few interfaces
pub record ListsMembers {S : Type 0} (interfaces : List Interface) (count : ℕ) (rows : List (HashMap (Bor (List ℕ)) ℕ S)) : Type 0 where
  pub size : length rows ≡ count
  pub each : (k : ℕ) (i : Interface) (names : HashMap (Bor (List ℕ)) ℕ S) → slice_get interfaces k ≡ Some i → slice_get rows k ≡ Some names → IsMember i names

-- what is seen of the packages
unfoldable pub faces_in : Environment → List Face
faces_in env = faces_of (types_of env.types.now) env.interfaces.now

pub record IsEnvironment (env : Environment) : Type 0 where
  pub paths : (q : List ℕ) → found env.paths q ≡ place_of (paths_of (faces_in env)) q
  pub members : ListsMembers env.interfaces.now (length env.interfaces.now) env.members.items
  pub within : AreInterfacesIn (length env.types.now) (types_of env.types.now) env.interfaces.now
