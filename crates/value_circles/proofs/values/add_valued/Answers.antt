use Rattle.std.proofs.Common.{◌++◌, ap, ◌∙◌}
use Rattle.package_objects.specs.Declares.{part}
use Rattle.package_objects.proofs.GatherLemmas.{gather_on}
use Rattle.value_circles.specs.Values.{nth_entry}
use Rattle.value_circles.proofs.values.add_valued.Goals as goal

pub loop-i-preserved : goal.loop-i-preserved
loop-i-preserved c = gather_on (nth_entry c.args.file c.args.nodes.now c.args.spec.now (part c.args.spec.now c.args.slot)) c.loop-i.i c.args.out.now.items _ _ c.loop-i.invariant
    (c.in_ok-add_nth.ensures ∙ ap (λ v. c.loop-i.out.items ++ nth_entry c.args.file c.args.nodes.now c.args.spec.now v c.loop-i.i) c.part_of-values.ensures)
