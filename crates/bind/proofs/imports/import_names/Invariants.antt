use Rattle.std.proofs.Common.{◌≡◌, ◌++◌, drop}
use Rattle.bind.specs.Imported.{imported}
use Rattle.bind.specs.Tables.{pairs}
use Rattle.bind.proofs.imports.import_names.Given as goal

abbrev pub invariant-loop-place : goal.invariant-loop-place
invariant-loop-place l = pairs l.out.items ++ imported l.named l.file (drop l.place l.specs) (drop l.place l.lines) ≡ imported l.named l.file l.specs l.lines
