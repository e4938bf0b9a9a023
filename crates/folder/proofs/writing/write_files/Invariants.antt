use Rattle.std.proofs.Common.{◌≤◌, take, List}
use Rattle.gv_base.specs.Files.{Entry}
use Rattle.folder.specs.Folders.{IsTold, put_all}
use Rattle.folder.proofs.writing.write_files.Given as goal

abbrev pub invariant-loop-file : goal.invariant-loop-file
invariant-loop-file g l = record {
  holds : (files : List Entry) → IsTold (g.T.Tree.view l.initial.tree).files files → IsTold (g.T.Tree.view l.tree).files (put_all files (take l.file-index l.changed));
  faults : (g.T.Tree.view l.initial.tree).faults ≤ (g.T.Tree.view l.tree).faults;
}
