use Rattle.std.proofs.Common.{ℕ, ◌<◌, ◌+◌, ◌*◌, get_or}
use Rattle.action_graph.specs.Flags.{IsSet}
use Rattle.action_graph.proofs.done.are_done.Given as goal

abbrev pub invariant-loop-number : goal.invariant-loop-number
invariant-loop-number l = (k : ℕ) → k < l.number-index → IsSet l.flags (get_or l.numbers k 0 * 16 + l.kind)
