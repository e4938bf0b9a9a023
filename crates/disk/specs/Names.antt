-- Which names and paths are taken into a listing.
use Rattle.std.specs.Prelude.{◌≡◌, ◌⊎◌, ℕ, ◌≤◌, List, [], ◌∷◌, ◌++◌, length, codes, Bool, true, false, not, ◌&&◌, ◌||◌, nat_le, bytes_eq, if◌then◌else◌}
use Rattle.std.specs.List.{list_all}
use Rattle.gv_base.specs.Paths.{IsPath, is_segment_byte}
use Rattle.gv_base.specs.Files.{Entry, put_file}
use Rattle.import_graph.specs.Sources.{is_source}
use Rattle.disk.specs.declared.device.Kind.{Kind}
use Rattle.disk.specs.declared.device.Kind.TheVariants.{File, Folder, Other}
use Rattle.disk.specs.Folders.{Named, child}

-- a name that can be a segment of a path
abbrev pub is_segment : List ℕ → Bool
is_segment name = list_all is_segment_byte name && (nat_le 1 (length name) && (not (bytes_eq name (codes ".")) && not (bytes_eq name (codes ".."))))

-- a path is short enough
abbrev pub is_short : List ℕ → Bool
is_short path = nat_le (length path) 1024

-- what a run reads: `go.mod` and the source files
abbrev pub is_chosen : List ℕ → Bool
is_chosen path = bytes_eq path (codes "go.mod") || is_source path

-- a folder is looked into where a source file may stand in it
abbrev pub is_open : List ℕ → Bool
is_open folder = is_source (folder ++ codes "/some_file.go")

abbrev pub is_file : Kind → Bool
is_file File = true
is_file Folder = false
is_file Other = false

abbrev pub is_folder : Kind → Bool
is_folder File = false
is_folder Folder = true
is_folder Other = false

-- an item is a file that is listed
abbrev pub lists : List ℕ → Named → Bool
lists folder item = is_segment item.0 && (is_file item.1 && (is_short (child folder item.0) && is_chosen (child folder item.0)))

-- an item is a folder that is looked into
abbrev pub enters : List ℕ → Named → Bool
enters folder item = is_segment item.0 && (is_folder item.1 && (is_short (child folder item.0) && is_open (child folder item.0)))

-- the files found, with one item more
abbrev pub found_with : List ℕ → List Entry → Named → List Entry
found_with folder found item = if lists folder item then put_file found (child folder item.0) [] else found

-- the folders to look into, with one item more
abbrev pub waiting_with : List ℕ → List (List ℕ) → Named → List (List ℕ)
waiting_with folder waiting item = if enters folder item then waiting ++ child folder item.0 ∷ [] else waiting

-- the folder at the top, or one with a path
abbrev pub IsFolder : List ℕ → Type 0
IsFolder folder = (folder ≡ []) ⊎ IsPath folder
