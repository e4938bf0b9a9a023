use Rattle.std.proofs.Common.{false}
use Rattle.node_values.proofs.HandLemmas.{tops_are}
use Rattle.node_values.proofs.flagging.no_flags.Goals as goal

pub returns : goal.returns
returns c = tops_are c.args.count false c.in_ok-flags.flags.items c.in_ok-flags.ensures
