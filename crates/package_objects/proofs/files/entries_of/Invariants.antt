use Rattle.std.proofs.Common.{◌≡◌}
use Rattle.package_objects.specs.Declares.{gather, declared_by}
use Rattle.package_objects.proofs.files.entries_of.Given as goal

abbrev pub invariant-loop-file : goal.invariant-loop-file
invariant-loop-file l = l.entries.items ≡ gather (declared_by l.trees l.meant) l.file
