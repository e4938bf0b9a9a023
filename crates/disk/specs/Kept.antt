-- What a keeper in a file shows, and a tree on a disk.
use Rattle.std.specs.Prelude.{ℕ, List, Option, None, take, codes}
use Rattle.std.specs.Option.{option_map}
use Rattle.gv_base.specs.Files.{Entry, file_at}
use Rattle.gv_base.specs.Keepers.{KeeperView}
use Rattle.gv_base.specs.Trees.{TreeView}

-- the first bytes of the kept file
abbrev pub kept_in : List Entry → Option (List ℕ)
kept_in files = option_map (λ bytes. take 1073741825 bytes) (file_at files (codes ".gvet-cache"))

abbrev pub keeper_shows : Option (List Entry) → ℕ → ℕ → KeeperView
keeper_shows held fetches stores = record { kept = option_map kept_in held; failed_fetches = fetches; failed_stores = stores }

-- a tree on a disk tells nothing of what it holds
abbrev pub tree_shows : ℕ → TreeView
tree_shows faults = record { files = None; faults = faults }
