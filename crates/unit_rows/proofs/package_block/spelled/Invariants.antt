use Rattle.std.proofs.Common.{◌≡◌, map, take}
use Rattle.unit_read.specs.Index.{texts_of}
use Rattle.unit_read.specs.Subjects.{unit_of}
use Rattle.unit_read.specs.Units.{name_at}
use Rattle.unit_rows.proofs.package_block.spelled.Given as goal

abbrev pub invariant-loop-node : goal.invariant-loop-node
invariant-loop-node l = texts_of l.texts.items ≡ map (name_at (unit_of l.s)) (take l.node-index l.nodes)
