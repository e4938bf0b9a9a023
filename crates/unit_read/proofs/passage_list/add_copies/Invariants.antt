use Rattle.std.proofs.Common.{◌≡◌, ◌++◌}
use Rattle.package_objects.specs.Declares.{gather}
use Rattle.unit_read.specs.Passages.{nth_copy}
use Rattle.unit_read.proofs.passage_list.add_copies.Given as goal

abbrev pub invariant-loop-i : goal.invariant-loop-i
invariant-loop-i l = l.out.items ≡ l.fn.out.items ++ gather (nth_copy l.file l.nodes) l.i
