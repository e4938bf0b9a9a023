-- The names of the package block (Go 1.17, "Declarations and scope").
use Rattle.std.specs.Prelude.{◌≡◌, ℕ, List, map}
use Rattle.go_tree.specs.Lexeme.{place_of}
use Rattle.unit_read.specs.Index.{found}
use Rattle.unit_read.specs.Units.{Unit, name_at}
use Rattle.unit_rows.specs.Redeclared.{package_names}
use Rattle.check_pkg.specs.declared.block.PackageBlock.{PackageBlock}

-- how they are spelled, in order of file and node
abbrev pub spelled_names : Unit → List (List ℕ)
spelled_names u = map (name_at u) (package_names u)

-- the names, and the first place of each
pub record IsBlock (u : Unit) (b : PackageBlock) : Type 0 where
  pub names : b.names.items ≡ package_names u
  pub firsts : (q : List ℕ) → found b.firsts q ≡ place_of (spelled_names u) q
