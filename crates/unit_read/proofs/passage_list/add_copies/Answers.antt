use Rattle.package_objects.proofs.GatherLemmas.{gather_on}
use Rattle.unit_read.specs.Passages.{nth_copy}
use Rattle.unit_read.proofs.passage_list.add_copies.Goals as goal

pub loop-i-preserved : goal.loop-i-preserved
loop-i-preserved c = gather_on (nth_copy c.args.file c.args.nodes.now) c.loop-i.i c.args.out.now.items _ _ c.loop-i.invariant c.in_ok-add_nth.ensures
