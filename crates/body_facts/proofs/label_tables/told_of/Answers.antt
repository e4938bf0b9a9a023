use Rattle.std.proofs.Common.{arith}
use Rattle.body_facts.proofs.LabelLemmas.{none_told, told_more, told_all}
use Rattle.body_facts.proofs.label_tables.told_of.Goals as goal

pub loop-k-init : goal.loop-k-init
loop-k-init c = none_told c.args.jumps.now c.args.count c.in_ok-found.found.items c.in_ok-found.ensures

pub loop-k-preserved : goal.loop-k-preserved
loop-k-preserved c =
    told_more c.args.jumps.now c.loop-k.k c.args.count c.jump_at-jump.result c.loop-k.found.items c.tell.new.found.items c.requires c.jump_at-jump.ensures c.tell.ensures c.loop-k.invariant

pub returns : goal.returns
returns c = told_all c.args.jumps.now c.loop-k.k c.args.count c.loop-k.found.items (let t = c.loop-k-test.false in let e = c.loop-k.auto.k-end in omega arith) c.loop-k.invariant
