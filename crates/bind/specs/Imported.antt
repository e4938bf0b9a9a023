-- The names of a file's imports, in a list.
use Rattle.std.specs.Prelude.{ℕ, ◌++◌, List, [], ◌∷◌}
use Rattle.go_tree.specs.declared.head.ImportLine.{ImportLine}
use Rattle.go_tree.specs.declared.tree.NodeRef.{NodeRef}
use Rattle.bind.specs.Imports.{line_name}
use Rattle.bind.specs.Package.{listed}

-- the names of these imports, each at its spec
abbrev pub imported : List (List ℕ × List ℕ) → ℕ → List ℕ → List ImportLine → List (List ℕ × NodeRef)
imported named file [] ls = []
imported named file (n ∷ ns) [] = []
imported named file (n ∷ ns) (l ∷ ls) = listed (line_name named l) (record { file = file; node = n }) ++ imported named file ns ls
