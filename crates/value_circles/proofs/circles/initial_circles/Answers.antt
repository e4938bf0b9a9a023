use Rattle.std.proofs.Common.{ap, ◌∙◌}
use Rattle.std.specs.List.{flat_map}
use Rattle.value_circles.specs.Chosen.{if_chosen}
use Rattle.value_circles.proofs.CircleLemmas.{are_circles}
use Rattle.value_circles.proofs.circles.initial_circles.Goals as goal

pub returns : goal.returns
returns c =
    are_circles c.args.trees.now c.args.meant.now c.args.cyclic.now c.in_ok-variables.variables.items c.args.bodies.items c.in_ok-entries.entries.items c.in_ok-own.own c.in_ok-numbers.numbers
    c.new.result.items c.in_ok-order.order.items c.in_ok-list.list.items c.in_ok-variables.ensures c.in_ok-entries.ensures c.in_ok-own.ensures c.in_ok-numbers.ensures c.new.ensures.items
    c.in_ok-order.ensures (c.in_ok-list.ensures ∙ ap (flat_map (if_chosen c.in_ok-own.own c.args.cyclic.now)) c.deref.ensures.value)
