use Rattle.check_pkg.proofs.NamedLemmas.{named_more}
use Rattle.check_pkg.proofs.leading.named_rows.Goals as goal

pub loop-k-preserved : goal.loop-k-preserved
loop-k-preserved c =
    named_more c.args.u.now.trees.now c.loop-k.rows.items c.push.new.self.items c.loop-k.k c.tree_at.result.now c.in_ok-row.row c.loop-k.invariant c.tree_at.ensures c.in_ok-row.ensures c.in_ok-push.ensures.items
