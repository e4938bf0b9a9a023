-- The files of a tree outside, as a run reads them, and after some are written.
use Rattle.std.proofs.Common.{◌≡◌, ◌≤◌, ℕ, List, Option, Some, None, length, refl, sym, take, true}
use Rattle.std.specs.Prelude.{Err}
use Rattle.gv_base.specs.Files.{Entry}
use Rattle.analysis_core.specs.declared.reply.ChangedFile.{ChangedFile}
use Rattle.folder.specs.Folders.{IsTold, ReadsFronts, fronts, put_all}
use Rattle.top_calls.specs.declared.stop.Cut.{Cut}
use Rattle.top_calls.specs.Ends.{Writing, may}
use Rattle.top_calls.specs.Single.{ReadsTree, WritesTo, most_read}

-- what was read of a tree, also of one that doesn't tell
pub reads-tree : (tree : Option (List Entry)) (read : List Entry) → ReadsFronts most_read tree read → fronts most_read read ≡ read → ReadsTree tree read
reads-tree None read reads whole = record { files = read; told = tt; read_is = sym whole }
reads-tree (Some files) read reads whole = record { files = files; told = refl; read_is = reads }

-- the first so many of the files are written
pub writes-cut : (new : Option (List Entry)) (files : List Entry) (changed : List ChangedFile) (cut : Cut) → may cut Writing ≡ true → (n : ℕ) × (n ≤ length changed) × IsTold new (put_all files (take n changed)) → WritesTo files changed new (Err cut)
writes-cut new files changed cut allowed w = (w.0, w.1, w.2, allowed)
