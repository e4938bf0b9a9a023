use Rattle.import_graph.proofs.RowLemmas.{rows-more}
use Rattle.import_graph.proofs.rows.rows.Goals as goal

pub loop-n-preserved : goal.loop-n-preserved
loop-n-preserved c =
    rows-more c.args.stub c.args.homes.now c.loop-n.n c.index-homes-n.result c.args.names.now c.loop-n.rows.items c.add.new.rows.items c.loop-n-test.true
    c.index-homes-n.is c.loop-n.invariant c.in_ok-add.ensures
