use Rattle.std.proofs.Common.{◌≡◌, take}
use Rattle.tree_report.specs.Limits.{limited_sizes}
use Rattle.tree_report.proofs.limits.limited_sizes.Given as goal

abbrev pub invariant-loop-file : goal.invariant-loop-file
invariant-loop-file l = l.sizes.items ≡ limited_sizes (take l.file l.files)
