-- What a listing is.
use Rattle.std.specs.Prelude.{◌≡◌, ◌↔◌, ℕ, ◌≤◌, List, [], length, true, Option, None, Some}
use Rattle.disk.specs.Folders.{Placed, Has, Reaches}
use Rattle.disk.specs.Names.{is_chosen}

-- a file that stands below the top, is `go.mod` or a source file, and has a path that isn't too long
pub record IsListed (slots : List Placed) (path : List ℕ) : Type 0 where
  pub reached : Reaches slots [] path
  pub chosen : is_chosen path ≡ true
  pub short : length path ≤ 1024

-- exactly these
abbrev pub AreListed : List Placed → List (List ℕ) → Type 0
AreListed slots paths = (path : List ℕ) → Has paths path ↔ IsListed slots path

-- where the disk tells what it holds
abbrev pub TellsListing : Option (List Placed) → List (List ℕ) → Type 0
TellsListing None paths = Unit {0}
TellsListing (Some slots) paths = AreListed slots paths
