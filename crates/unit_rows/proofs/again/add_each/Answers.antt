use Rattle.package_objects.proofs.GatherLemmas.{gather_on}
use Rattle.unit_read.specs.Index.{texts_of}
use Rattle.unit_read.specs.Members.{nth_again}
use Rattle.unit_rows.proofs.again.add_each.Goals as goal

pub loop-i-preserved : goal.loop-i-preserved
loop-i-preserved c = gather_on (nth_again (texts_of c.args.names.now) c.args.nodes.now) c.loop-i.i c.args.out.now.items _ _ c.loop-i.invariant c.in_ok-add_nth.ensures
