use Rattle.std.proofs.Common.{◌≡◌}
use Rattle.package_objects.specs.Declares.{gather}
use Rattle.unit_rows.specs.Defined.{defined_of}
use Rattle.unit_rows.proofs.listing.defined.Given as goal

abbrev pub invariant-loop-file : goal.invariant-loop-file
invariant-loop-file l = l.out.items ≡ gather (defined_of l.trees) l.file
