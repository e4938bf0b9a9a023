use Rattle.std.proofs.lemmas.Option.{slice_get-get_or}
use Rattle.unit_blocks.proofs.BlockLemmas.{blocks_none, blocks_more}
use Rattle.unit_blocks.proofs.blocks.blocks_of.Goals as goal

pub loop-i-init : goal.loop-i-init
loop-i-init c = blocks_none c.args.file c.args.count c.args.names.now c.in_ok-groups.groups.items c.in_ok-groups.ensures.size c.in_ok-groups.ensures.empty

pub loop-i-preserved : goal.loop-i-preserved
loop-i-preserved c =
    blocks_more c.args.file c.args.count c.args.names.now c.loop-i.i _ c.loop-i.groups.items c.add_name.new.groups.items (slice_get-get_or c.args.names.now c.loop-i.i _ c.loop-i-test.true) c.loop-i.invariant
    c.in_ok-add_name.ensures
