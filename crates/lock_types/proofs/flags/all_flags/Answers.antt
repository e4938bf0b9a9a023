use Rattle.std.proofs.Common.{arith}
use Rattle.lock_types.proofs.OrderLemmas.{no_flags_yet, all_flags}
use Rattle.lock_types.proofs.flags.all_flags.Goals as goal

pub loop-i-init : goal.loop-i-init
loop-i-init c = no_flags_yet c.args.t.now c.requires.table c.args.list.now c.args.flags.now.items c.requires.size

pub returns : goal.returns
returns c = all_flags c.args.t.now c.requires.table c.args.list.now c.loop-i.i c.loop-i.flags.items c.requires.order (omega (arith, c.loop-i-test.false)) c.loop-i.invariant
