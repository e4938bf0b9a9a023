use Rattle.std.proofs.lemmas.Option.{slice_get-get_or}
use Rattle.unit_rows.proofs.SpecLemmas.{ends_more}
use Rattle.unit_rows.proofs.specs.end_of.Goals as goal

pub loop-i-preserved : goal.loop-i-preserved
loop-i-preserved c =
    ends_more c.args.specs.now c.loop-i.i c.loop-i.end c.later-end.result _ c.loop-i.invariant (slice_get-get_or c.args.specs.now c.loop-i.i _ c.loop-i-test.true) c.later-end.ensures.old c.later-end.ensures.new
