use Rattle.std.proofs.Common.{◌≡◌, take}
use Rattle.tree_findings.specs.Mending.{fixes_of}
use Rattle.tree_findings.proofs.mending.fixes_of.Given as goal

abbrev pub invariant-loop-line : goal.invariant-loop-line
invariant-loop-line l = l.fixes.items ≡ fixes_of (take l.line-index l.found)
