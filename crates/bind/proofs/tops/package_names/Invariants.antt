use Rattle.std.proofs.Common.{◌≡◌}
use Rattle.bind.specs.Package.{tops_before}
use Rattle.bind.specs.Tables.{pairs}
use Rattle.bind.proofs.tops.package_names.Given as goal

abbrev pub invariant-loop-at : goal.invariant-loop-at
invariant-loop-at l = pairs l.out.items ≡ tops_before l.files l.at
