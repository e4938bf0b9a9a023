use Rattle.std.proofs.Common.{◌≡◌, ◌++◌}
use Rattle.mark_walk.specs.Asks.{filled}
use Rattle.package_objects.specs.Declares.{gather}
use Rattle.typed_marks.specs.Meanings.{Quiet}
use Rattle.typed_marks.specs.States.{so_far}
use Rattle.duplicate_cases.specs.InCode.{nth_duplicates}
use Rattle.duplicate_cases.proofs.nodes.add_tree.Given as goal

abbrev pub invariant-loop-n : goal.invariant-loop-n
invariant-loop-n l = l.out.items ≡ l.fn.out.items ++ gather (nth_duplicates (filled Quiet (so_far l.s)) l.file l.tree.nodes) l.n
