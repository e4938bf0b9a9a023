use Rattle.std.proofs.Common.{arith}
use Rattle.vet_flow.proofs.DeadLemmas.{no_number, number_more, all_numbers}
use Rattle.vet_flow.proofs.dead.flags_of.Goals as goal

pub loop-i-init : goal.loop-i-init
loop-i-init c = no_number c.args.numbers.now c.args.count c.in_ok-flags.flags.items c.in_ok-flags.ensures

pub loop-i-preserved : goal.loop-i-preserved
loop-i-preserved c = number_more c.args.numbers.now c.loop-i.i c.args.count c.loop-i.flags.items c.set_nth.new.flags.items c.loop-i.invariant c.set_nth.ensures

pub returns : goal.returns
returns c = all_numbers c.args.numbers.now c.loop-i.i c.args.count c.loop-i.flags.items (omega (arith, c.loop-i-test.false, c.loop-i.auto.i-end)) c.loop-i.invariant
