use Rattle.shadowed_results.specs.Tables.{found, result_name, of_nodes}
use Rattle.shadowed_results.proofs.TableLemmas.{kept_more}
use Rattle.shadowed_results.proofs.table.results_of.Goals as goal

pub loop-n-preserved : goal.loop-n-preserved
loop-n-preserved c =
    kept_more (result_name c.args.bytes.now c.args.tree.now c.args.stages.now) (of_nodes c.args.functions.now) c.loop-n.n (found c.loop-n.table) (found c.add.new.table) c.loop-n.invariant c.in_ok-add.ensures
