use Rattle.std.proofs.lemmas.Option.{slice_get-get_or}
use Rattle.unit_read.specs.Subjects.{unit_of}
use Rattle.unit_rows.proofs.NamedLemmas.{named_more}
use Rattle.unit_rows.proofs.types.first_of.Goals as goal

pub loop-k-preserved : goal.loop-k-preserved
loop-k-preserved c =
    named_more (unit_of c.args.s.now) c.args.list.now c.loop-k.k _ c.loop-k.named c.add_type.new.named (slice_get-get_or c.args.list.now c.loop-k.k _ c.loop-k-test.true) c.loop-k.invariant c.in_ok-add_type.ensures
