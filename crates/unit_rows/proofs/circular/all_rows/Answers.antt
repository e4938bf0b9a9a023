use Rattle.std.proofs.Common.{List, ap, ◌∙◌, subst}
use Rattle.go_tree.specs.declared.tree.FileTree.{FileTree}
use Rattle.go_tree.specs.declared.tree.NodeRef.{NodeRef}
use Rattle.name_circles.specs.Circles.{AreMarked}
use Rattle.object_order.specs.Views.{node_in, meant_in, entry_in, kin_in}
use Rattle.unit_read.specs.Subjects.{unit_of}
use Rattle.unit_rows.specs.Circular.{flagged}
use Rattle.unit_rows.specs.Cyclic.{all_cyclic}
use Rattle.unit_rows.specs.Tables.{is_listed}
use Rattle.unit_rows.proofs.CircularLemmas.{world_with, circular_are}
use Rattle.unit_rows.proofs.circular.all_rows.Goals as goal

pub returns : goal.returns
returns c =
    let u = unit_of c.args.s.now in
    let v = c.args.view in
    circular_are u v.entries.items v.numbers v.groups.items v.meant.now c.in_ok-order.order.items c.in_ok-circles.circles.items c.in_ok-flags.flags.items c.requires.named c.requires.grouped c.requires.rows
    (subst (λ (trees : List FileTree). AreMarked (world_with (node_in trees) (meant_in v.meant.now) (entry_in v.entries.items v.numbers) (kin_in v.groups.items v.numbers)) v.entries.items c.in_ok-order.order.items) c.requires.trees
    c.in_ok-order.ensures)
    (λ at. c.in_ok-circles.ensures at ∙ ap (λ (list : List NodeRef). is_listed u.trees list at) (c.deref-2.ensures.value ∙ (c.in_ok-marked.ensures ∙ ap all_cyclic c.deref.ensures.value)))
    (λ at. c.in_ok-flags.ensures at ∙ ap (λ (list : List NodeRef). is_listed u.trees list at) (c.deref-4.ensures.value ∙ (c.in_ok-list.ensures ∙ ap (λ (names : List NodeRef). flagged c.in_ok-circles.circles.items names) (c.deref-3.ensures.value ∙ c.in_ok-values.ensures))))
    c.requires.entries
