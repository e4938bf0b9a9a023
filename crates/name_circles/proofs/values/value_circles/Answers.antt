use Rattle.std.proofs.Common.{Bool, List, map, ap, ◌∙◌, sym, subst}
use Rattle.std.specs.Global.{Vec}
use Rattle.std.specs.List.{flat_map}
use Rattle.go_tree.specs.declared.tree.NodeRef.{NodeRef}
use Rattle.name_circles.specs.Circles.{AreMarked}
use Rattle.name_circles.specs.Values.{cells_of, chosen_items, kept_entries, if_cyclic}
use Rattle.name_circles.proofs.ValueLemmas.{world_by, value_circles_are}
use Rattle.name_circles.proofs.values.value_circles.Goals as goal

pub returns : goal.returns
returns c =
    let v = c.args.view.now in
    value_circles_are v.trees.now v.meant.now v.entries.items v.numbers v.groups.items c.in_ok-quiet.quiet.items c.deref.result.now c.deref-2.result.now c.in_ok-kept.kept.items c.in_ok-numbers.numbers c.in_ok-order.order.items
    c.in_ok-list.list.items c.requires
    (ap (map cells_of) c.deref.ensures.value ∙ (c.in_ok-all.ensures ∙ ap (λ (flags : List Bool). map (chosen_items v.numbers flags) v.meant.now) c.in_ok-values.ensures))
    c.in_ok-quiet.ensures (sym c.are_apart.ensures ∙ c.if-not-are_apart.false)
    (ap (map cells_of) c.deref-2.ensures.value ∙ (c.in_ok-meant.ensures ∙ ap (λ (flags : List Bool). map (chosen_items v.numbers flags) v.meant.now) c.in_ok-leading.ensures))
    (c.in_ok-kept.ensures ∙ ap (kept_entries v.entries.items v.numbers) c.in_ok-leading.ensures) c.in_ok-numbers.ensures
    (subst (λ (groups : List (Vec NodeRef)). AreMarked (world_by v.trees.now c.deref-2.result.now c.in_ok-kept.kept.items c.in_ok-numbers.numbers groups) c.in_ok-kept.kept.items c.in_ok-order.order.items) c.new.ensures.items
    c.in_ok-order.ensures)
    (c.in_ok-list.ensures ∙ ap (flat_map if_cyclic) c.deref-3.ensures.value)
