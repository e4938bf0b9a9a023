use Rattle.std.proofs.lemmas.Option.{slice_get-get_or}
use Rattle.unit_rows.proofs.FirstLemmas.{firsts_more}
use Rattle.unit_rows.proofs.firsts.first_rows.Goals as goal

pub loop-place-preserved : goal.loop-place-preserved
loop-place-preserved c =
    firsts_more c.args.trees.now c.args.list.now c.loop-place.place _ c.loop-place.rows.items c.put_next.new.rows.items (slice_get-get_or c.args.list.now c.loop-place.place _ c.loop-place-test.true)
    c.loop-place.invariant c.put_next.ensures
