use Rattle.std.proofs.Common.{◌++◌, ap, ◌∙◌}
use Rattle.package_objects.specs.Declares.{source_with, const_at}
use Rattle.package_objects.proofs.GatherLemmas.{constants_on}
use Rattle.package_objects.proofs.constants.add_constants.Goals as goal

pub loop-i-preserved : goal.loop-i-preserved
loop-i-preserved c = (let both = constants_on c.args.file c.args.nodes.now c.args.node.now.parts c.loop-i.i c.loop-i.source c.next_source-source.result c.args.out.now.items c.loop-i.out.items c.add_const_spec.new.out.items
    c.loop-i.invariant.source (c.next_source-source.ensures ∙ ap (λ o. source_with c.args.nodes.now c.loop-i.source o) c.part_of-spec.ensures) c.loop-i.invariant.out
    (c.in_ok-add_const_spec.ensures ∙ ap (λ o. c.loop-i.out.items ++ const_at c.args.file c.args.nodes.now c.next_source-source.result o) c.part_of-spec.ensures) in record { source = both.0; out = both.1 })
