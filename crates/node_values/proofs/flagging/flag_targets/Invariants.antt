use Rattle.node_values.specs.Flagged.{AreFlagged}
use Rattle.node_values.proofs.flagging.flag_targets.Given as goal

abbrev pub invariant-loop-n : goal.invariant-loop-n
invariant-loop-n g l = AreFlagged (g.T.Targets.Leads l.rule) l.n l.count l.flags.items
