use Rattle.std.proofs.Common.{◌≡◌, ◌≤◌, [], List, Some, fold, map, take}
use Rattle.std.specs.String.{string_bytes}
use Rattle.gv_base.specs.Files.{Entry}
use Rattle.folder.specs.Folders.{AreAtPaths, AreFitting, with_front}
use Rattle.folder.proofs.reading.read_all.Given as goal

abbrev pub invariant-loop-path : goal.invariant-loop-path
invariant-loop-path g l = record {
  keeps : (g.T.Tree.view l.tree).files ≡ (g.T.Tree.view l.initial.tree).files;
  read : (held : List Entry) → (g.T.Tree.view l.initial.tree).files ≡ Some held → l.files ≡ fold (with_front l.most held) [] (map string_bytes (take l.path-index l.paths));
  paths : AreAtPaths l.files;
  fitting : AreFitting l.most l.files;
  faults : (g.T.Tree.view l.initial.tree).faults ≤ (g.T.Tree.view l.tree).faults;
}
