-- What one look into a folder makes of the files found and of the folders to look into.
use Rattle.std.specs.Prelude.{◌≡◌, ℕ, ◌<◌, ◌^◌, List, [], ◌∷◌, ◌++◌, length, Option, Bool, true, false}
use Rattle.std.specs.List.{fold}
use Rattle.gv_base.specs.Files.{Entry}
use Rattle.disk.specs.Folders.{Placed, Named, TellsItems}
use Rattle.disk.specs.Names.{found_with, waiting_with}

-- what stood in the folder, which is less than 2^64 items
pub record LooksInto (slots : Option (List Placed)) (folder : List ℕ) (found found' : List Entry) (waiting waiting' : List (List ℕ)) : Type 0 where
  pub items : List Named
  pub few : length items < 2 ^ 64
  pub are : TellsItems slots folder items
  pub files : found' ≡ fold (found_with folder) found items
  pub folders : waiting' ≡ fold (waiting_with folder) waiting items

-- one of the folders that wait is looked into
pub record Turned (slots : Option (List Placed)) (found found' : List Entry) (waiting waiting' : List (List ℕ)) : Type 0 where
  pub folder : List ℕ
  pub rest : List (List ℕ)
  pub split : waiting ≡ rest ++ folder ∷ []
  pub looks : LooksInto slots folder found found' rest waiting'

-- or none waits
abbrev pub Turns : Option (List Placed) → List Entry → List Entry → List (List ℕ) → List (List ℕ) → Bool → Type 0
Turns slots found found' waiting waiting' true = Turned slots found found' waiting waiting'
Turns slots found found' waiting waiting' false = (waiting ≡ []) × (found' ≡ found)
