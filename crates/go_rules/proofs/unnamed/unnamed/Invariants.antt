use Rattle.std.proofs.Common.{◌≡◌, length, take}
use Rattle.go_rules.proofs.UnnamedLemmas.{unnamed_by}
use Rattle.go_rules.proofs.unnamed.unnamed.Given as goal

abbrev pub invariant-loop-n : goal.invariant-loop-n
invariant-loop-n l = l.flags.items ≡ unnamed_by (take l.n l.nodes) (length l.nodes)
