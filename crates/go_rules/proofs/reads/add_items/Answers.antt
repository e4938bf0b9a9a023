use Rattle.std.proofs.Common.{◌≡◌, ◌++◌, ◌∙◌, ap, arith}
use Rattle.package_objects.specs.Declares.{gather, items}
use Rattle.package_objects.proofs.GatherLemmas.{gather_on}
use Rattle.go_rules.specs.Slots.{nth_read, read_item}
use Rattle.go_rules.proofs.ReadLemmas.{all_read}
use Rattle.go_rules.proofs.reads.add_items.Goals as goal

pub loop-i-preserved : goal.loop-i-preserved
loop-i-preserved c =
    gather_on (nth_read c.args.how (items c.args.nodes.now c.args.part)) c.loop-i.i c.args.out.now.items _ _ c.loop-i.invariant
    (c.in_ok-add_item.ensures ∙ ap (λ o. c.loop-i.out.items ++ read_item c.args.how o) c.item.ensures)

pub returns : goal.returns
returns c =
    let list = items c.args.nodes.now c.args.part in
    let last : c.loop-i.i ≡ c.count-i-end.result = omega arith in
    c.loop-i.invariant ∙ ap (λ reads. c.args.out.now.items ++ reads) (ap (gather (nth_read c.args.how list)) (last ∙ c.count-i-end.ensures) ∙ all_read c.args.how list)
