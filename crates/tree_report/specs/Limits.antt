-- The limits of a tree, and which of them is told where a tree is over some.
use Rattle.std.specs.Prelude.{◌≡◌, ℕ, ◌<◌, ◌||◌, ◌⊎◌, Bool, true, false, cond, Option, Some, None, List, [], ◌∷◌, length, map, codes, sum, bytes_eq, nat_lt}
use Rattle.std.specs.List.{filter, list_any}
use Rattle.gv_base.specs.Files.{Entry}
use Rattle.go_tree.specs.declared.head.Head.{Head}
use Rattle.parse_file.specs.declared.verdict.FileVerdict.{FileVerdict}
use Rattle.import_graph.specs.Sources.{is_source}
use Rattle.import_graph.specs.Packages.{ArePackages}
use Rattle.import_graph.specs.declared.pack.Package.{Package}
use Rattle.analysis_core.specs.declared.reply.TreeLimit.{TreeLimit}
use Rattle.analysis_core.specs.declared.reply.TreeLimit.TheVariants as limit
use Rattle.tree_report.specs.Reading.{AreRead, AreHeads}

-- the limits count `go.mod` and the source files; other files are never read
abbrev pub is_limited : List ℕ → Bool
is_limited path = bytes_eq path (codes "go.mod") || is_source path

-- how many bytes each of these files has
abbrev pub limited_sizes : List Entry → List ℕ
limited_sizes tree = map (λ entry. length entry.1) (filter (λ entry. is_limited entry.0) tree)

abbrev pub most_files : ℕ
most_files = 10000

abbrev pub most_file_bytes : ℕ
most_file_bytes = 4194304

abbrev pub most_tree_bytes : ℕ
most_tree_bytes = 67108864

abbrev pub most_packages : ℕ
most_packages = 1024

-- files of these sizes are too many, some is too long, and together they are
abbrev pub are_many : List ℕ → Bool
are_many sizes = nat_lt most_files (length sizes)

abbrev pub some_long : List ℕ → Bool
some_long sizes = list_any (nat_lt most_file_bytes) sizes

abbrev pub are_heavy : List ℕ → Bool
are_heavy sizes = nat_lt most_tree_bytes (sum sizes)

-- The tree has more packages than there may be.
pub record HasManyPackages (tree : List Entry) : Type 0 where
  pub verdicts : List (Option FileVerdict)
  pub heads : List (Option Head)
  pub packages : List Package
  pub read : AreRead tree verdicts
  pub headed : AreHeads tree verdicts heads
  pub packed : ArePackages tree heads packages
  pub many : most_packages < length packages

-- When a tree is over a limit. Which line is told of a limit `limit_line` says.
abbrev pub IsOver : TreeLimit → List Entry → Type 0
IsOver limit.Files tree = are_many (limited_sizes tree) ≡ true
IsOver limit.FileBytes tree = some_long (limited_sizes tree) ≡ true
IsOver limit.TreeBytes tree = are_heavy (limited_sizes tree) ≡ true
IsOver limit.Packages tree = HasManyPackages tree

-- the limits, in the order in which they are asked for
abbrev pub limits : List TreeLimit
limits = limit.Files ∷ limit.FileBytes ∷ limit.TreeBytes ∷ limit.Packages ∷ []

-- the first of these that the tree is over
abbrev pub IsFirstOf : List TreeLimit → List Entry → TreeLimit → Type 0
IsFirstOf [] tree first = ⊥
IsFirstOf (l ∷ ls) tree first = ((l ≡ first) × IsOver l tree) ⊎ ((IsOver l tree → ⊥) × IsFirstOf ls tree first)

-- The tree is over this limit, and over none before it.
abbrev pub IsFirstLimit : List Entry → TreeLimit → Type 0
IsFirstLimit tree first = IsFirstOf limits tree first

abbrev pub IsOverOne : List Entry → Type 0
IsOverOne tree = (first : TreeLimit) × IsFirstLimit tree first

-- the tree is over no limit
abbrev pub IsWithin : List Entry → Type 0
IsWithin tree = (l : TreeLimit) → IsOver l tree → ⊥

-- the first limit that files of these sizes are over
abbrev pub size_limit : List ℕ → Option TreeLimit
size_limit sizes = cond (are_many sizes) (Some limit.Files) (cond (some_long sizes) (Some limit.FileBytes) (cond (are_heavy sizes) (Some limit.TreeBytes) None))
