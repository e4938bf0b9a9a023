use Rattle.std.proofs.Common.{◌≡◌, ◌++◌}
use Rattle.package_objects.specs.Declares.{gather}
use Rattle.unit_read.specs.Index.{texts_of}
use Rattle.unit_read.specs.Members.{nth_again}
use Rattle.unit_rows.proofs.again.add_each.Given as goal

abbrev pub invariant-loop-i : goal.invariant-loop-i
invariant-loop-i l = l.out.items ≡ l.fn.out.items ++ gather (nth_again (texts_of l.names) l.nodes) l.i
