-- What is read of a tree within the limits: the verdicts and the heads of its files, and its packages. Every tree is taken; its source files may be
-- whatever the scanner and the parser take or refuse.
use Rattle.std.specs.Prelude.{◌≤◌, ◌⊎◌, Option, List, length}
use Rattle.gv_base.specs.Files.{Entry}
use Rattle.go_tree.specs.declared.head.Head.{Head}
use Rattle.parse_file.specs.declared.verdict.FileVerdict.{FileVerdict}
use Rattle.import_graph.specs.Packages.{ArePackages}
use Rattle.import_graph.specs.declared.pack.Package.{Package}
use Rattle.tree_report.specs.Limits.{IsOverOne, IsWithin, most_packages}
use Rattle.tree_report.specs.Reading.{AreRead, AreHeads}

-- The tree is within the limits; its files have these verdicts and heads, and these are its packages.
pub record IsForm (tree : List Entry) (verdicts : List (Option FileVerdict)) (heads : List (Option Head)) (packages : List Package) : Type 0 where
  pub within : IsWithin tree
  pub read : AreRead tree verdicts
  pub headed : AreHeads tree verdicts heads
  pub packed : ArePackages tree heads packages
  pub few : length packages ≤ most_packages

abbrev pub HasForm : List Entry → Type 0
HasForm tree = (verdicts : List (Option FileVerdict)) × ((heads : List (Option Head)) × ((packages : List Package) × IsForm tree verdicts heads packages))

-- the tree is over a limit, or its files have verdicts and heads, and it has packages
abbrev pub HasReading : List Entry → Type 0
HasReading tree = IsOverOne tree ⊎ HasForm tree
