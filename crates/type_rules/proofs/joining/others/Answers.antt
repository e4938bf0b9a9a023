use Rattle.package_objects.proofs.GatherLemmas.{gather_more}
use Rattle.type_rules.specs.Joining.{nth_reads}
use Rattle.type_rules.proofs.joining.others.Goals as goal

pub loop-j-preserved : goal.loop-j-preserved
loop-j-preserved c = gather_more (nth_reads c.args.nodes.now c.args.around.now c.args.i) c.loop-j.j _ _ c.loop-j.invariant c.in_ok-add_nth.ensures
