-- When nothing lacks that a package may ask of others; and when more is seen of them.
use Rattle.std.specs.Prelude.{◌≡◌, ℕ, true, Some, Bool, ◌||◌, List, [], bytes_eq, codes}
use Rattle.std.specs.List.{Contains}
use Rattle.export_text.specs.Mentions.{IsMentioned}
use Rattle.package_faces.specs.Declaring.{first_named, path_of}
use Rattle.package_faces.specs.Faces.{Face}
use Rattle.check_pkg.specs.Packages.{Package}
use Rattle.action_graph.specs.Nodes.{Named}
use Rattle.action_graph.specs.Judging.{Env, ImportsPath, IsPackageOf}

-- what is known of the package of a path: the first face of it
abbrev pub Knows : Env → List ℕ → Face → Type 0
Knows env path f = first_named path_of env path ≡ Some f

-- what is known stays known
abbrev pub Grows : Env → Env → Type 0
Grows env world = (path : List ℕ) (f : Face) → Knows env path f → Knows world path f

-- Nothing lacks that a package of these files may ask of others: each package that they import is known, and each that what is seen of one mentions.
pub record IsClosed (path : List ℕ) (files : List Named) (env : Env) : Type 0 where
  pub imports : (pack : Package) (other : List ℕ) → IsPackageOf path files pack → ImportsPath pack other → (f : Face) × Knows env other f
  pub mentions : (f : Face) (other : List ℕ) → Contains env f → IsMentioned f other → (g : Face) × Knows env other g

-- no package has such a path: imports of `unsafe` and `C` lead to none, and names of the universe block have none
abbrev pub is_reserved : List ℕ → Bool
is_reserved path = bytes_eq path (codes "unsafe") || (bytes_eq path (codes "C") || bytes_eq path [])

-- none of these paths is a package's
abbrev pub Reserved : Env → Type 0
Reserved world = (path : List ℕ) (f : Face) → is_reserved path ≡ true → Knows world path f → ⊥
