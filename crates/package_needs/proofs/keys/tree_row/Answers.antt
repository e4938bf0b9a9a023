use Rattle.std.proofs.Common.{◌≡◌, ◌≤◌, ◌^◌, ap, length, subst, sym, ℕ, List}
use Rattle.go_tree.specs.declared.tree.Node.{Node}
use Rattle.object_order.specs.Views.{world_of}
use Rattle.package_needs.specs.Keys.{up, flagged, IsMentionRow}
use Rattle.package_needs.proofs.MentionLemmas.{above_from, count_from}
use Rattle.package_needs.proofs.keys.tree_row.Goals as goal

few : (read nodes : List Node) → read ≡ nodes → length nodes ≤ 2 ^ 32 → length read ≤ 2 ^ 32
few read nodes same small = subst (λ (n : ℕ). n ≤ 2 ^ 32) (sym (ap length same)) small

pub literals_in-requires : goal.literals_in-requires
literals_in-requires c = record {
  far = c.requires.far;
  above = above_from c.args.view.now.trees.now c.args.file c.args.tree.now c.as_slice-nodes.result.now c.in_ok-table.table.items c.as_slice-nodes.ensures c.requires.at c.in_ok-table.ensures;
  count = count_from c.args.view.now.trees.now c.args.file c.args.tree.now c.as_slice-nodes.result.now c.as_slice-nodes.ensures c.requires.at;
  few = few c.as_slice-nodes.result.now c.args.tree.now.nodes c.as_slice-nodes.ensures c.requires.small;
}

pub mention_row-requires : goal.mention_row-requires
mention_row-requires c = record {
  small = few c.as_slice-nodes.result.now c.args.tree.now.nodes c.as_slice-nodes.ensures c.requires.small;
  far = c.requires.far;
  above = above_from c.args.view.now.trees.now c.args.file c.args.tree.now c.as_slice-nodes.result.now c.in_ok-table.table.items c.as_slice-nodes.ensures c.requires.at c.in_ok-table.ensures;
  known = c.in_ok-types.ensures;
}

pub returns : goal.returns
returns c = subst (λ (n : ℕ). IsMentionRow (world_of c.args.view.now) (flagged c.args.elsewhere.now.items) (up c.args.view.now.trees.now) c.args.file c.in_ok-row.row.items n) (ap length c.as_slice-nodes.ensures) c.in_ok-row.ensures
