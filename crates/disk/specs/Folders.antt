-- Folders: which names stand in each, and what they name.
use Rattle.std.specs.Prelude.{◌≡◌, ◌⊎◌, ℕ, List, [], ◌∷◌, ◌++◌, Option, None, Some}
use Rattle.std.specs.String.{string_bytes}
use Rattle.gv_base.specs.Paths.{slash, IsSegment}
use Rattle.disk.specs.declared.device.Kind.{Kind}
use Rattle.disk.specs.declared.device.Kind.TheVariants.{File, Folder, Other}
use Rattle.disk.specs.declared.device.Item.{Item}

-- a name and what it names
abbrev pub Named : Type 0
Named = List ℕ × Kind

-- a folder, a name that stands in it, and what this names; the folder at the top is the empty text
abbrev pub Placed : Type 0
Placed = List ℕ × List ℕ × Kind

-- it is one of them
abbrev pub Has : {X : Type 0} → List X → X → Type 0
Has [] x = ⊥
Has (y ∷ ys) x = (x ≡ y) ⊎ Has ys x

abbrev pub named_of : Item → Named
named_of item = (string_bytes item.name, item.kind)

-- the path of a name in a folder
abbrev pub child : List ℕ → List ℕ → List ℕ
child [] name = name
child (b ∷ folder) name = (b ∷ folder) ++ slash ∷ name

-- a folder's items are all that stands in it
pub record AreItems (slots : List Placed) (folder : List ℕ) (items : List Named) : Type 0 where
  pub sound : (name : List ℕ) (kind : Kind) → Has items (name, kind) → Has slots (folder, name, kind)
  pub complete : (name : List ℕ) (kind : Kind) → Has slots (folder, name, kind) → Has items (name, kind)

-- what a disk answers that tells what it holds
abbrev pub TellsItems : Option (List Placed) → List ℕ → List Named → Type 0
TellsItems None folder items = Unit {0}
TellsItems (Some slots) folder items = AreItems slots folder items

-- below a folder stands the file of a path: in it, or in a folder that stands in it. Links lead nowhere.
pub data Reaches (slots : List Placed) : List ℕ → List ℕ → Type 0 where
  here : (folder name : List ℕ) → IsSegment name → Has slots (folder, name, File) → Reaches slots folder (child folder name)
  down : (folder name path : List ℕ) → IsSegment name → Has slots (folder, name, Folder) → Reaches slots (child folder name) path → Reaches slots folder path
