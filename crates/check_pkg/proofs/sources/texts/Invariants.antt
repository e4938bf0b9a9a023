use Rattle.std.proofs.Common.{◌≡◌, map, take}
use Rattle.unit_read.specs.Index.{texts_of}
use Rattle.check_pkg.specs.Packages.{text_of}
use Rattle.check_pkg.proofs.sources.texts.Given as goal

abbrev pub invariant-loop-file : goal.invariant-loop-file
invariant-loop-file l = texts_of l.list.items ≡ map text_of (take l.file-index l.files)
