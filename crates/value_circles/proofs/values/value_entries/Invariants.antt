use Rattle.std.proofs.Common.{◌≡◌, ◌++◌}
use Rattle.package_objects.specs.Declares.{gather, part}
use Rattle.value_circles.specs.Values.{file_entries}
use Rattle.value_circles.proofs.values.value_entries.Given as goal

abbrev pub invariant-loop-file : goal.invariant-loop-file
invariant-loop-file l = l.entries.items ≡ gather (file_entries l.trees) l.file
