use Rattle.std.proofs.Common.{List, ℕ, subst}
use Rattle.gv_driver.specs.Reports.{IsFoundShown}
use Rattle.gv_driver.proofs.FindingLaws.{shown-next}
use Rattle.gv_driver.proofs.diagnosed.found_in.Goals as goal

pub loop-run-preserved : goal.loop-run-preserved
loop-run-preserved c =
    let files = c.args.files.now in
    let shown = subst (λ (t : List ℕ). IsFoundShown files c.run-item.result.analyzer t c.in_ok-found.found.items) c.as_slice.ensures c.in_ok-found.ensures in
    shown-next files c.args.runs.now c.loop-run.run-index c.run-item.result c.loop-run.list.items c.in_ok-found.found.items c.add_all.new.list.items c.loop-run-test.true c.run-item.is c.loop-run.invariant shown c.in_ok-add_all.ensures
