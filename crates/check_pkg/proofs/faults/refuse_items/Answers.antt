use Rattle.std.proofs.Common.{length, arith, ap}
use Rattle.mark_walk.specs.Asks.{filled}
use Rattle.typed_marks.specs.Meanings.{Quiet}
use Rattle.typed_marks.specs.States.{so_far}
use Rattle.unit_read.specs.Passages.{passages}
use Rattle.unit_read.specs.Subjects.{unit_of}
use Rattle.check_pkg.specs.Items.{RefusesBlock}
use Rattle.check_pkg.proofs.GainLemmas.{below_none, below_more, below_all}
use Rattle.check_pkg.proofs.ItemLemmas.{items_gain}
use Rattle.check_pkg.proofs.faults.refuse_items.Goals as goal

pub loop-block-init : goal.loop-block-init
loop-block-init c = below_none (RefusesBlock (unit_of c.args.u.now) (filled Quiet (so_far c.args.s.now))) c.args.list.now.items

pub loop-block-preserved : goal.loop-block-preserved
loop-block-preserved c =
    below_more (RefusesBlock (unit_of c.args.u.now) (filled Quiet (so_far c.args.s.now))) c.loop-block.block c.args.list.now.items c.loop-block.list.items c.refuse_block.new.list.items
    c.loop-block.invariant c.in_ok-refuse_block.ensures

pub returns : goal.returns
returns c =
    let u = unit_of c.args.u.now in
    let marks = filled Quiet (so_far c.args.s.now) in
    items_gain u marks c.args.list.now.items c.loop-block.list.items
    (below_all (RefusesBlock u marks) c.loop-block.block (length (passages u.trees)) c.args.list.now.items c.loop-block.list.items
    (let size = ap length c.requires.read.blocks in omega arith) c.loop-block.invariant)
