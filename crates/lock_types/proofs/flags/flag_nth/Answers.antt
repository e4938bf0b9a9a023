use Rattle.std.proofs.Common.{sym, ◌∙◌}
use Rattle.lock_types.proofs.OrderLemmas.{flag_past}
use Rattle.lock_types.proofs.flags.flag_nth.Goals as goal

pub returns-in-None : goal.returns-in-None
returns-in-None c = flag_past c.args.t.now c.requires.table c.args.list.now c.args.i c.args.flags.now.items (sym c.nth.ensures ∙ c.in-None.is) c.requires.so_far
