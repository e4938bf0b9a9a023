use Rattle.std.proofs.Common.{◌++◌, ap, ◌∙◌}
use Rattle.package_objects.specs.Declares.{source_with}
use Rattle.const_tree.specs.Constants.{spec_for}
use Rattle.const_tree.proofs.ListLemmas.{specs_on}
use Rattle.const_tree.proofs.specs.add_specs.Goals as goal

pub loop-i-preserved : goal.loop-i-preserved
loop-i-preserved c = (let both = specs_on c.args.nodes.now c.args.node.now c.loop-i.i c.loop-i.source c.next_source-source.result c.args.out.now.items c.loop-i.out.items c.add_spec.new.out.items
    c.loop-i.invariant.source (c.next_source-source.ensures ∙ ap (λ o. source_with c.args.nodes.now c.loop-i.source o) c.part_of-part.ensures) c.loop-i.invariant.out
    (c.in_ok-add_spec.ensures ∙ ap (λ o. c.loop-i.out.items ++ spec_for o c.loop-i.i c.next_source-source.result) c.part_of-part.ensures) in record { source = both.0; out = both.1 })
