-- The files of a package, and the names that they declare outside functions.
use Rattle.std.specs.Prelude.{ℕ, ◌≡◌, ◌⊎◌, true, false, List, [], ◌∷◌, length, slice_get, Option, Some, None, bytes_eq, codes}
use Rattle.gv_base.specs.Files.{is_before}
use Rattle.go_tree.specs.Arena.{arena_of}
use Rattle.go_tree.specs.Bindings.{IsBefore}
use Rattle.go_tree.specs.Forest.{Forest}
use Rattle.go_tree.specs.declared.tree.FileTree.{FileTree}
use Rattle.go_tree.specs.declared.tree.NodeRef.{NodeRef}
use Rattle.scopes.specs.Regions.{file_names}
use Rattle.scopes.specs.declared.scope.Named.{Named}
use Rattle.file_uses.specs.Locals.{IsAssigned}
use Rattle.file_uses.specs.Numbers.{name_in}
use Rattle.file_uses.specs.Uses.{IsPlain}

-- a file of a package: its path, its bytes, its tree, and the trees that its nodes are
pub record Source : Type 0 where
  pub path : List ℕ
  pub bytes : List ℕ
  pub tree : FileTree
  pub forest : Forest

-- the files, and for each import that leads to a package its path and that package's name
pub record Sources : Type 0 where
  pub files : List Source
  pub named : List (List ℕ × List ℕ)

-- the name that a node is, if it is one
abbrev pub name_of : Source → ℕ → Option (List ℕ)
name_of src n = name_in src.bytes src.tree n

-- the names that a file declares
abbrev pub names_in : Source → List Named
names_in src = file_names src.forest

-- a node is a use of the name: not `_`, and not the name of what a node declares, unless `:=` assigns it
abbrev pub IsUse : Source → ℕ → List ℕ → Type 0
IsUse src n name = (name_of src n ≡ Some name) × (bytes_eq name (codes "_") ≡ false) × (IsPlain src.tree.nodes n ⊎ IsAssigned (name_of src) (names_in src) n)

-- The node is the name in a package-level declaration. `init` isn't declared (Go 1.17, "Package initialization").
abbrev pub IsTop : Source → ℕ → List ℕ → Type 0
IsTop src n name = (k : ℕ) × (d : Named) × (slice_get (names_in src) k ≡ Some d) × (d.node ≡ n) × (d.end ≡ length src.tree.nodes)
    × (name_of src n ≡ Some name) × (bytes_eq name (codes "init") ≡ false)

-- the package declares the name there
abbrev pub IsPackageName : Sources → NodeRef → List ℕ → Type 0
IsPackageName p at name = (src : Source) × (slice_get p.files at.file ≡ Some src) × IsTop src at.node name

-- the path of a file
abbrev pub path_in : Option Source → List ℕ
path_in (Some src) = src.path
path_in None = []

abbrev pub path_at : Sources → ℕ → List ℕ
path_at p f = path_in (slice_get p.files f)

-- a node comes before another: by the path of its file, then by file, then by number
abbrev pub IsEarlier : Sources → NodeRef → NodeRef → Type 0
IsEarlier p a b = (is_before (path_at p a.file) (path_at p b.file) ≡ true) ⊎ ((path_at p a.file ≡ path_at p b.file) × IsBefore a b)

-- the files of a call, with their trees
abbrev pub AreFiles : List FileTree → List (List ℕ × List ℕ) → List Source → Type 0
AreFiles [] [] [] = Unit {0}
AreFiles [] [] (s ∷ ss) = ⊥
AreFiles [] (e ∷ es) ss = ⊥
AreFiles (t ∷ ts) [] ss = ⊥
AreFiles (t ∷ ts) (e ∷ es) [] = ⊥
AreFiles (t ∷ ts) (e ∷ es) (s ∷ ss) = (s.tree ≡ t) × (s.path ≡ e.0) × (s.bytes ≡ e.1) × (arena_of t.tokens s.forest ≡ t) × AreFiles ts es ss
