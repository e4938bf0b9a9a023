use Rattle.std.proofs.lemmas.Option.{slice_get-get_or}
use Rattle.std.proofs.lemmas.Slice.Eq.{bytes_eq-Decides}
use Rattle.unit_read.specs.Index.{found}
use Rattle.check_pkg.proofs.ImportLemmas.{least_more}
use Rattle.check_pkg.proofs.import_refusals.least_nodes.Goals as goal

pub loop-declared-preserved : goal.loop-declared-preserved
loop-declared-preserved c = λ q.
    least_more c.args.names.now c.loop-declared.declared-index _ (found c.loop-declared.firsts) q (found c.keep_least.new.firsts q)
    (slice_get-get_or c.args.names.now c.loop-declared.declared-index _ c.loop-declared-test.true) c.loop-declared.invariant _ (bytes_eq-Decides _ q) (c.in_ok-keep_least.ensures q)
