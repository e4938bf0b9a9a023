-- What is kept of the files of a tree that were read.
use Rattle.std.specs.Prelude.{◌≡◌, ℕ, Option, Some, List, length, map, slice_get}
use Rattle.gv_base.specs.Files.{Entry}
use Rattle.go_tree.specs.declared.head.Head.{Head}
use Rattle.parse_file.specs.declared.verdict.FileVerdict.{FileVerdict}
use Rattle.tree_report.specs.Lines.{refusal_of}
use Rattle.tree_report.specs.Reading.{IsRead, head_in}
use Rattle.tree_report.specs.declared.read.Told.{Told}

-- the head and the refusal of a file, by its verdict
pub record IsTold (entry : Entry) (told : Told) : Type 0 where
  pub verdict : Option FileVerdict
  pub read : IsRead entry verdict
  pub head : told.head ≡ head_in entry verdict
  pub refusal : told.refusal ≡ refusal_of verdict

-- those of the first few files
pub record AreTold (tree : List Entry) (count : ℕ) (heads : List (Option Head)) (refusals : List (Option FileVerdict)) : Type 0 where
  pub verdicts : List (Option FileVerdict)
  pub size : length verdicts ≡ count
  pub read : (n : ℕ) (v : Option FileVerdict) → slice_get verdicts n ≡ Some v → (e : Entry) → slice_get tree n ≡ Some e → IsRead e v
  pub headed : length heads ≡ count
  pub heads_are : (n : ℕ) (h : Option Head) → slice_get heads n ≡ Some h → (e : Entry) (v : Option FileVerdict) → slice_get tree n ≡ Some e → slice_get verdicts n ≡ Some v → h ≡ head_in e v
  pub refusals_are : refusals ≡ map refusal_of verdicts
