use Rattle.std.proofs.Common.{◌≡◌, map, take}
use Rattle.unit_read.specs.Index.{texts_of}
use Rattle.unit_read.specs.Subjects.{unit_of}
use Rattle.unit_read.specs.Units.{name_at}
use Rattle.check_pkg.proofs.block.spelled.Given as goal

abbrev pub invariant-loop-name : goal.invariant-loop-name
invariant-loop-name l = texts_of l.texts.items ≡ map (name_at (unit_of l.u)) (take l.name-index l.names)
