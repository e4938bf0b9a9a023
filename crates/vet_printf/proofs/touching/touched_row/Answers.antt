use Rattle.std.proofs.Common.{List, length, Some, refl, sym, ap, ◌∙◌, subst, arith}
use Rattle.std.proofs.lemmas.Option.{slice_get-get_or}
use Rattle.go_tree.specs.declared.tree.Node.{Node}
use Rattle.findings.specs.Passes.{unit_in}
use Rattle.vet_printf.specs.Forwards.{AreTouched}
use Rattle.vet_printf.proofs.TouchLemmas.{none_touched, touched_more, all_touched}
use Rattle.vet_printf.proofs.touching.touched_row.Goals as goal

pub loop-node-init : goal.loop-node-init
loop-node-init c = none_touched (unit_in c.args.p.now) c.args.file (length c.nodes_at-nodes.result.now) _ c.in_ok-row.row.items c.in_ok-row.ensures refl

pub loop-node-preserved : goal.loop-node-preserved
loop-node-preserved c =
    let nodes = c.nodes_at-nodes.result.now in
    let at = slice_get-get_or nodes c.loop-node.node-index c.node-item.result c.loop-node-test.true ∙ ap (λ (x : Node). Some x) (sym c.node-item.is) in
    touched_more (unit_in c.args.p.now) c.args.file (length nodes) nodes c.loop-node.node-index c.node-item.result c.loop-node.row.items c.touch_node.new.row.items at c.loop-node.invariant c.touch_node.ensures

pub returns : goal.returns
returns c =
    let nodes = c.nodes_at-nodes.result.now in
    subst (λ (l : List Node). AreTouched (unit_in c.args.p.now) c.args.file (length l) l c.loop-node.row.items) c.nodes_at-nodes.ensures
    (all_touched (unit_in c.args.p.now) c.args.file (length nodes) nodes c.loop-node.node-index c.loop-node.row.items (omega (arith, c.loop-node-test.false, c.loop-node.auto.node-index-end)) c.loop-node.invariant)
