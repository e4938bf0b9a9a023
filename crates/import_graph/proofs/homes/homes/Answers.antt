use Rattle.import_graph.proofs.RowLemmas.{homes-more}
use Rattle.import_graph.proofs.homes.homes.Goals as goal

pub loop-n-preserved : goal.loop-n-preserved
loop-n-preserved c =
    homes-more c.args.root.now c.args.files.now c.loop-n.n _ _ c.in_ok-home.home c.loop-n.homes.items c.push.new.self.items c.at-file.ensures
    c.in_ok-home.ensures c.loop-n.invariant c.in_ok-push.ensures.items
