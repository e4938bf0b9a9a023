use Rattle.std.proofs.Common.{◌≡◌, ◌++◌}
use Rattle.mark_walk.specs.Asks.{filled}
use Rattle.package_objects.specs.Declares.{gather}
use Rattle.typed_marks.specs.Meanings.{Quiet}
use Rattle.typed_marks.specs.States.{so_far}
use Rattle.duplicate_cases.specs.InCode.{file_duplicates}
use Rattle.duplicate_cases.proofs.nodes.add_trees.Given as goal

abbrev pub invariant-loop-file : goal.invariant-loop-file
invariant-loop-file l = l.out.items ≡ l.fn.out.items ++ gather (file_duplicates l.trees (filled Quiet (so_far l.s))) l.file
