use Rattle.std.proofs.lemmas.Option.{slice_get-get_or}
use Rattle.unit_rows.proofs.UseLemmas.{uses_more}
use Rattle.unit_rows.proofs.objects.rows_of.Goals as goal

pub loop-k-preserved : goal.loop-k-preserved
loop-k-preserved c =
    uses_more c.args.trees.now c.args.entries.now c.loop-k.k _ c.loop-k.rows.items c.put_use.new.rows.items (slice_get-get_or c.args.entries.now c.loop-k.k _ c.loop-k-test.true)
    c.loop-k.invariant c.put_use.ensures
