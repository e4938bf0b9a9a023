use Rattle.std.proofs.Common.{◌≡◌, take}
use Rattle.folder.specs.Folders.{AreAtPaths, put_all}
use Rattle.top_calls.proofs.desk.put_changed.Given as goal

abbrev pub invariant-loop-file : goal.invariant-loop-file
invariant-loop-file l = (l.files ≡ put_all l.fn.files (take l.file-index l.changed)) × (AreAtPaths l.fn.files → AreAtPaths l.files)
