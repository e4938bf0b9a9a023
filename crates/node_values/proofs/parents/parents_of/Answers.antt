use Rattle.std.proofs.Common.{◌≡◌, ℕ, List, Some, slice_get, sym, ap, ◌∙◌, subst, arith}
use Rattle.std.proofs.lemmas.Option.{slice_get-get_or}
use Rattle.go_tree.specs.declared.tree.Node.{Node}
use Rattle.node_values.specs.Parents.{AreGiven}
use Rattle.node_values.proofs.ParentLemmas.{parents_more, all_parents}
use Rattle.node_values.proofs.parents.parents_of.Goals as goal

pub loop-at-preserved : goal.loop-at-preserved
loop-at-preserved c =
    let nodes = c.args.nodes.now in
    let node = c.index-nodes-at.result in
    let there : slice_get nodes c.loop-at.at ≡ Some node = slice_get-get_or nodes c.loop-at.at node c.loop-at-test.true ∙ ap (λ (x : Node). Some x) (sym c.index-nodes-at.is) in
    parents_more nodes c.loop-at.at node c.loop-at.parents.items c.give.new.numbers.items there c.loop-at.invariant
    (subst (λ (x : List ℕ). AreGiven x c.loop-at.at c.loop-at.parents.items c.give.new.numbers.items) c.as_slice.ensures c.give.ensures)

pub returns : goal.returns
returns c = all_parents c.args.nodes.now c.loop-at.at c.loop-at.parents.items (let t = c.loop-at-test.false in let e = c.loop-at.auto.at-end in omega arith) c.loop-at.invariant
