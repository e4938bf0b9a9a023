use Rattle.unit_read.specs.Environments.{faces_in}
use Rattle.check_pkg.specs.Packages.{known_of}
use Rattle.std.proofs.Common.{◌≡◌, ◌++◌, drop}
use Rattle.bind.specs.Imported.{imported}
use Rattle.check_pkg.specs.ImportLists.{pairs}
use Rattle.check_pkg.proofs.import_names.import_names.Given as goal

abbrev pub invariant-loop-place : goal.invariant-loop-place
invariant-loop-place l = pairs l.out.items ++ imported (known_of (faces_in l.env)) l.file (drop l.place l.specs) (drop l.place l.lines) ≡ imported (known_of (faces_in l.env)) l.file l.specs l.lines
