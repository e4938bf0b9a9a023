use Rattle.std.proofs.Common.{◌≡◌}
use Rattle.package_objects.specs.Declares.{gather}
use Rattle.unit_read.specs.Subjects.{unit_of}
use Rattle.unit_rows.specs.Redeclared.{nth_in_block}
use Rattle.unit_rows.proofs.package_block.all_in_block.Given as goal

abbrev pub invariant-loop-i : goal.invariant-loop-i
invariant-loop-i l = l.out.items ≡ gather (nth_in_block (unit_of l.s) l.entries) l.i
