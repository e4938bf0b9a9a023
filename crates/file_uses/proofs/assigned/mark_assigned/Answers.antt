use Rattle.std.proofs.Common.{◌<◌, arith, false, length}
use Rattle.std.proofs.lemmas.Option.{slice_get-get_or}
use Rattle.std.proofs.lemmas.List.{get_or_default}
use Rattle.file_uses.proofs.AssignedLemmas.{no_named, none_marked, marks_more}
use Rattle.file_uses.proofs.assigned.mark_assigned.Goals as goal

pub loop-at-init : goal.loop-at-init
loop-at-init c = none_marked c.args.names.now c.args.first.now c.args.once.now c.args.flags.now.items

pub loop-at-preserved : goal.loop-at-preserved
loop-at-preserved c =
    let ds = c.args.names.now in
    let i = c.loop-at.at in
    let there = slice_get-get_or ds i no_named c.loop-at-test.true in
    let low_first : i < length c.args.first.now = omega (arith, c.loop-at-test.true, c.requires.first) in
    let low_once : i < length c.args.once.now = omega (arith, c.loop-at-test.true, c.requires.once) in
    marks_more ds c.args.first.now c.args.once.now i c.args.flags.now.items c.loop-at.flags.items c.mark_one.new.flags.items _ _ _ there
    (get_or_default c.args.first.now i false _ low_first) (get_or_default c.args.once.now i false _ low_once) c.mark_one.ensures c.loop-at.invariant
