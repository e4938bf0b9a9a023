-- What is read of a tree: the verdict and the head of each source file.
use Rattle.std.specs.Prelude.{◌≡◌, ℕ, true, false, Option, Some, None, List, length, slice_get}
use Rattle.gv_base.specs.Files.{Entry}
use Rattle.go_tree.specs.Head.{head_of}
use Rattle.go_tree.specs.declared.head.Head.{Head}
use Rattle.parse_file.specs.Verdict.{IsVerdict}
use Rattle.parse_file.specs.declared.verdict.FileVerdict.{FileVerdict}
use Rattle.parse_file.specs.declared.verdict.FileVerdict.TheVariants as file
use Rattle.import_graph.specs.Sources.{is_source}

-- what is known of a file: of a source file the verdict of its bytes, of another nothing
abbrev pub IsRead : Entry → Option FileVerdict → Type 0
IsRead entry None = is_source entry.0 ≡ false
IsRead entry (Some verdict) = (is_source entry.0 ≡ true) × IsVerdict entry.1 verdict

-- the same of each file
pub record AreRead (tree : List Entry) (verdicts : List (Option FileVerdict)) : Type 0 where
  pub size : length verdicts ≡ length tree
  pub each : (n : ℕ) (entry : Entry) (verdict : Option FileVerdict) → slice_get tree n ≡ Some entry → slice_get verdicts n ≡ Some verdict → IsRead entry verdict

-- the head of a file with this verdict; a file that is refused has none
abbrev pub head_by : List ℕ → FileVerdict → Option Head
head_by text (file.Parsed tree) = Some (head_of tree text)
head_by text (file.Lexical offset why) = None
head_by text (file.Syntax offset) = None
head_by text (file.TooDeep offset) = None

abbrev pub head_in : Entry → Option FileVerdict → Option Head
head_in entry None = None
head_in entry (Some verdict) = head_by entry.1 verdict

-- the heads of the files
pub record AreHeads (tree : List Entry) (verdicts : List (Option FileVerdict)) (heads : List (Option Head)) : Type 0 where
  pub size : length heads ≡ length tree
  pub each : (n : ℕ) (entry : Entry) (verdict : Option FileVerdict) (head : Option Head) → slice_get tree n ≡ Some entry → slice_get verdicts n ≡ Some verdict → slice_get heads n ≡ Some head → head ≡ head_in entry verdict
