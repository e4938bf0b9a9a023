-- The packages that a package sees: itself, and those of its environment.
use Rattle.std.specs.Prelude.{◌≡◌, ◌⊎◌, ℕ, Bool, true, List, is_some}
use Rattle.go_tree.specs.Lexeme.{place_of}
use Rattle.unit_read.specs.Imports.{paths_of}
use Rattle.unit_read.specs.Units.{Unit}

-- a package of the environment has the path
abbrev pub is_beside : Unit → List ℕ → Bool
is_beside u path = is_some (place_of (paths_of u.env) path)

-- the path is that of the package, or of one of its environment
abbrev pub IsSeen : Unit → List ℕ → Type 0
IsSeen u path = (path ≡ u.path) ⊎ (is_beside u path ≡ true)

-- the environment of the package, whose functions are the only ones that are looked at
abbrev pub env_of : Unit → List ℕ → List ℕ → Bool
env_of u p q = is_beside u q
