-- A tree of which each file has its first bytes alone, one more than a file may have.
use Rattle.std.specs.Prelude.{List, filter}
use Rattle.gv_base.specs.Files.{Entry}
use Rattle.folder.specs.Folders.{fronts, is_read}
use Rattle.tree_report.specs.Limits.{IsFirstLimit, most_file_bytes}
use Rattle.analysis_core.specs.declared.reply.TreeLimit.{TreeLimit}
use Rattle.std.specs.Prelude.{◌≡◌, ◌⊎◌, ◌+◌}

-- the files that a run reads, whole
abbrev pub read_whole : List Entry → List Entry
read_whole files = filter (λ file. is_read file.0) files

abbrev pub read_cut : List Entry → List Entry
read_cut files = fronts (most_file_bytes + 1) files

-- nothing is cut, or both are over one limit first
abbrev pub CutsNothingSeen : List Entry → Type 0
CutsNothingSeen files = (read_cut files ≡ read_whole files) ⊎ ((limit : TreeLimit) × IsFirstLimit (read_cut files) limit × IsFirstLimit (read_whole files) limit)
