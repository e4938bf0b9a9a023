use Rattle.std.proofs.lemmas.Option.{slice_get-get_or}
use Rattle.unit_read.specs.Subjects.{unit_of}
use Rattle.unit_rows.proofs.FirstLemmas.{locals_more}
use Rattle.unit_rows.proofs.locals.rows_of.Goals as goal

pub loop-k-preserved : goal.loop-k-preserved
loop-k-preserved c =
    locals_more (unit_of c.args.s.now) c.args.list.now c.loop-k.k _ c.loop-k.rows.items c.put_local.new.rows.items (slice_get-get_or c.args.list.now c.loop-k.k _ c.loop-k-test.true) c.loop-k.invariant c.put_local.ensures
