use Rattle.std.proofs.Common.{◌++◌, ◌∙◌, ap}
use Rattle.package_objects.proofs.GatherLemmas.{gather_more}
use Rattle.go_rules.specs.Families.{family}
use Rattle.go_rules.specs.Slots.{nth_slot}
use Rattle.go_rules.proofs.reads.add_reads.Goals as goal

pub loop-slot-preserved : goal.loop-slot-preserved
loop-slot-preserved c =
    let nodes = c.args.nodes.now in
    let node = c.args.node.now in
    gather_more (nth_slot (family node.kind) nodes node) c.loop-slot.slot _ _ c.loop-slot.invariant
    (c.in_ok-add_slot.ensures ∙ ap (λ f. c.loop-slot.out.items ++ nth_slot f nodes node c.loop-slot.slot) c.family_of-by.ensures)

pub loop-slot-init : goal.loop-slot-init
loop-slot-init c = c.clear.ensures.items
