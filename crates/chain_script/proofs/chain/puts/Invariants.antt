use Rattle.std.proofs.Common.{◌≡◌}
use Rattle.chain_script.specs.Chain.{puts_below}
use Rattle.chain_script.proofs.chain.puts.Given as goal

abbrev pub invariant-loop-i : goal.invariant-loop-i
invariant-loop-i l = l.out.items ≡ puts_below l.i
