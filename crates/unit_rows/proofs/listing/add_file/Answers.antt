use Rattle.std.proofs.Common.{◌≤◌, ◌^◌, List, length, sym, subst}
use Rattle.go_tree.specs.declared.tree.Node.{Node}
use Rattle.unit_rows.proofs.ListLemmas.{small_at}
use Rattle.unit_rows.proofs.listing.add_file.Goals as goal

pub add_nodes-requires : goal.add_nodes-requires
add_nodes-requires c = subst (λ (xs : List Node). length xs ≤ 2 ^ 32) (sym c.nodes_in.ensures) (small_at c.args.trees.now c.requires c.args.file)
