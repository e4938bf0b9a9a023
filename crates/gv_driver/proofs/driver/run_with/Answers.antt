use Rattle.std.proofs.Common.{◌≡◌, ◌<◌, ◌≤◌, ◌+◌, ◌*◌, ◌^◌, ◌∙◌, ◌++◌, ℕ, List, Option, Some, ap, map, sym, subst, length, take, arith, rules}
use Rattle.std.specs.Prelude.{sum_by}
use Rattle.std.proofs.lemmas.List.{length-map}
use Rattle.fact_cache.specs.declared.list.Entry.{Entry}
use Rattle.analysis_core.specs.declared.diagnostic.Diagnostic.{Diagnostic}
use Rattle.gv_driver.specs.declared.node.Node.{Node}
use Rattle.gv_driver.specs.declared.reply.Verdict.{Verdict}
use Rattle.gv_driver.specs.Caches.{IsHonest}
use Rattle.gv_driver.specs.Entries.{all_entries}
use Rattle.gv_driver.specs.Given.{told_at}
use Rattle.gv_driver.specs.Reports.{AllFoundShown, AreShown}
use Rattle.gv_driver.specs.Runs.{CanKeep}
use Rattle.gv_driver.specs.Tables.{AreShort, loads_in, missing_in, nodes_in, runs_in, waiting}
use Rattle.gv_driver.specs.Tallies.{tally}
use Rattle.gv_driver.proofs.StepLaws.{rows-none, stops-goes, table-none, table-short, waiting-none}
use Rattle.gv_driver.proofs.EntryLaws.{can-keep, kept-all, kept-honest}
use Rattle.gv_driver.proofs.FindingLaws.{found-stands}
use Rattle.gv_driver.proofs.ReportLaws.{report-stands}
use Rattle.gv_driver.proofs.RunLaws.{loads-bound, runs-bound, cut-first, cut-stops, cut-in_keep, ran-right}
use Rattle.gv_driver.proofs.GrownLaws.{grown-not}
use Rattle.gv_driver.proofs.driver.run_with.Goals as goal

pub returns-in_err-table-clause-least : goal.returns-in_err-table-clause-least
returns-in_err-table-clause-least g c = grown-not g.K.Kit.loads g.K.Kit.runs c.args.kits.now

pub returns-in_err-table-clause-cut_off : goal.returns-in_err-table-clause-cut_off
returns-in_err-table-clause-cut_off g c = λ honest.
    let h = cut-first c.args.tree.now c.args.only c.args.cache.now (tally (sum_by g.K.Kit.loads c.args.kits.now) (sum_by g.K.Kit.runs c.args.kits.now)) in search (rules, h)

pub run_all-requires-clause-waits : goal.run_all-requires-clause-waits
run_all-requires-clause-waits g c = λ κs _. waiting-none (length c.args.tree.now) c.in_ok-table.table.items c.in_ok-table.ensures

pub run_all-requires-clause-table : goal.run_all-requires-clause-table
run_all-requires-clause-table g c = λ κs _. table-none c.args.tree.now c.args.only c.args.cache.now c.in_ok-table.table.items c.in_ok-table.ensures

pub run_all-requires-clause-rows : goal.run_all-requires-clause-rows
run_all-requires-clause-rows g c = λ κs _. rows-none c.args.tree.now c.args.cache.now c.in_ok-table.table.items c.in_ok-table.ensures

pub returns-in_err-run_all-clause-loads : goal.returns-in_err-run_all-clause-loads
returns-in_err-run_all-clause-loads g c =
    loads-bound c.args.tree.now c.args.only c.args.cache.now c.in_ok-table.table.items (tally (sum_by g.K.Kit.loads c.args.kits.now) (sum_by g.K.Kit.runs c.args.kits.now)) (tally (sum_by g.K.Kit.loads c.run_all.new.kits) (sum_by g.K.Kit.runs c.run_all.new.kits)) c.in_ok-table.ensures
    c.in_err-run_all.ensures.stops

pub returns-in_err-run_all-clause-runs : goal.returns-in_err-run_all-clause-runs
returns-in_err-run_all-clause-runs g c =
    runs-bound c.args.tree.now c.args.only c.args.cache.now c.in_ok-table.table.items (tally (sum_by g.K.Kit.loads c.args.kits.now) (sum_by g.K.Kit.runs c.args.kits.now)) (tally (sum_by g.K.Kit.loads c.run_all.new.kits) (sum_by g.K.Kit.runs c.run_all.new.kits)) c.in_ok-table.ensures
    c.in_err-run_all.ensures.stops

pub returns-in_err-run_all-clause-cut_off : goal.returns-in_err-run_all-clause-cut_off
returns-in_err-run_all-clause-cut_off g c = λ honest.
    let h = cut-stops c.args.tree.now c.args.only c.args.cache.now c.in_ok-table.table.items (tally (sum_by g.K.Kit.loads c.args.kits.now) (sum_by g.K.Kit.runs c.args.kits.now)) (tally (sum_by g.K.Kit.loads c.run_all.new.kits) (sum_by g.K.Kit.runs c.run_all.new.kits)) honest c.in_ok-table.ensures
    c.in_err-run_all.ensures.stops in
    search (rules, h)

pub verdicts-requires : goal.verdicts-requires
verdicts-requires g c = ap (λ (l : List (Option Node)). length l) c.deref.ensures.value ∙ c.in_ok-run_all.ensures.goes.right.size

pub returns-in_err-list-clause-loads : goal.returns-in_err-list-clause-loads
returns-in_err-list-clause-loads g c =
    loads-bound c.args.tree.now c.args.only c.args.cache.now c.in_ok-table.table.items (tally (sum_by g.K.Kit.loads c.args.kits.now) (sum_by g.K.Kit.runs c.args.kits.now)) (tally (sum_by g.K.Kit.loads c.run_all.new.kits) (sum_by g.K.Kit.runs c.run_all.new.kits)) c.in_ok-table.ensures
    (stops-goes c.args.tree.now c.args.only c.args.cache.now c.in_ok-table.table.items c.run_all.new.table.items (tally (sum_by g.K.Kit.loads c.args.kits.now) (sum_by g.K.Kit.runs c.args.kits.now)) (tally (sum_by g.K.Kit.loads c.run_all.new.kits) (sum_by g.K.Kit.runs c.run_all.new.kits)) c.in_ok-run_all.ensures.goes)

pub returns-in_err-list-clause-runs : goal.returns-in_err-list-clause-runs
returns-in_err-list-clause-runs g c =
    runs-bound c.args.tree.now c.args.only c.args.cache.now c.in_ok-table.table.items (tally (sum_by g.K.Kit.loads c.args.kits.now) (sum_by g.K.Kit.runs c.args.kits.now)) (tally (sum_by g.K.Kit.loads c.run_all.new.kits) (sum_by g.K.Kit.runs c.run_all.new.kits)) c.in_ok-table.ensures
    (stops-goes c.args.tree.now c.args.only c.args.cache.now c.in_ok-table.table.items c.run_all.new.table.items (tally (sum_by g.K.Kit.loads c.args.kits.now) (sum_by g.K.Kit.runs c.args.kits.now)) (tally (sum_by g.K.Kit.loads c.run_all.new.kits) (sum_by g.K.Kit.runs c.run_all.new.kits)) c.in_ok-run_all.ensures.goes)

pub returns-in_err-list-clause-cut_off : goal.returns-in_err-list-clause-cut_off
returns-in_err-list-clause-cut_off g c = λ honest.
    let h = cut-stops c.args.tree.now c.args.only c.args.cache.now c.in_ok-table.table.items (tally (sum_by g.K.Kit.loads c.args.kits.now) (sum_by g.K.Kit.runs c.args.kits.now)) (tally (sum_by g.K.Kit.loads c.run_all.new.kits) (sum_by g.K.Kit.runs c.run_all.new.kits)) honest c.in_ok-table.ensures
    (stops-goes c.args.tree.now c.args.only c.args.cache.now c.in_ok-table.table.items c.run_all.new.table.items (tally (sum_by g.K.Kit.loads c.args.kits.now) (sum_by g.K.Kit.runs c.args.kits.now)) (tally (sum_by g.K.Kit.loads c.run_all.new.kits) (sum_by g.K.Kit.runs c.run_all.new.kits)) c.in_ok-run_all.ensures.goes) in
    search (rules, h)

pub findings-requires : goal.findings-requires
findings-requires g c = ap (λ (l : List (Option Node)). length l) c.deref-2.ensures.value ∙ c.in_ok-run_all.ensures.goes.right.size

pub returns-in_err-found-clause-loads : goal.returns-in_err-found-clause-loads
returns-in_err-found-clause-loads g c =
    loads-bound c.args.tree.now c.args.only c.args.cache.now c.in_ok-table.table.items (tally (sum_by g.K.Kit.loads c.args.kits.now) (sum_by g.K.Kit.runs c.args.kits.now)) (tally (sum_by g.K.Kit.loads c.run_all.new.kits) (sum_by g.K.Kit.runs c.run_all.new.kits)) c.in_ok-table.ensures
    (stops-goes c.args.tree.now c.args.only c.args.cache.now c.in_ok-table.table.items c.run_all.new.table.items (tally (sum_by g.K.Kit.loads c.args.kits.now) (sum_by g.K.Kit.runs c.args.kits.now)) (tally (sum_by g.K.Kit.loads c.run_all.new.kits) (sum_by g.K.Kit.runs c.run_all.new.kits)) c.in_ok-run_all.ensures.goes)

pub returns-in_err-found-clause-runs : goal.returns-in_err-found-clause-runs
returns-in_err-found-clause-runs g c =
    runs-bound c.args.tree.now c.args.only c.args.cache.now c.in_ok-table.table.items (tally (sum_by g.K.Kit.loads c.args.kits.now) (sum_by g.K.Kit.runs c.args.kits.now)) (tally (sum_by g.K.Kit.loads c.run_all.new.kits) (sum_by g.K.Kit.runs c.run_all.new.kits)) c.in_ok-table.ensures
    (stops-goes c.args.tree.now c.args.only c.args.cache.now c.in_ok-table.table.items c.run_all.new.table.items (tally (sum_by g.K.Kit.loads c.args.kits.now) (sum_by g.K.Kit.runs c.args.kits.now)) (tally (sum_by g.K.Kit.loads c.run_all.new.kits) (sum_by g.K.Kit.runs c.run_all.new.kits)) c.in_ok-run_all.ensures.goes)

pub returns-in_err-found-clause-cut_off : goal.returns-in_err-found-clause-cut_off
returns-in_err-found-clause-cut_off g c = λ honest.
    let h = cut-stops c.args.tree.now c.args.only c.args.cache.now c.in_ok-table.table.items (tally (sum_by g.K.Kit.loads c.args.kits.now) (sum_by g.K.Kit.runs c.args.kits.now)) (tally (sum_by g.K.Kit.loads c.run_all.new.kits) (sum_by g.K.Kit.runs c.run_all.new.kits)) honest c.in_ok-table.ensures
    (stops-goes c.args.tree.now c.args.only c.args.cache.now c.in_ok-table.table.items c.run_all.new.table.items (tally (sum_by g.K.Kit.loads c.args.kits.now) (sum_by g.K.Kit.runs c.args.kits.now)) (tally (sum_by g.K.Kit.loads c.run_all.new.kits) (sum_by g.K.Kit.runs c.run_all.new.kits)) c.in_ok-run_all.ensures.goes) in
    search (rules, h)

pub counts-counts-requires-clause-few : goal.counts-counts-requires-clause-few
counts-counts-requires-clause-few g c =
    let size : length c.deref-3.result.now ≡ length c.args.tree.now = ap (λ (l : List (Option Node)). length l) c.deref-3.ensures.value ∙ c.in_ok-run_all.ensures.goes.right.size in
    let few : length c.args.tree.now < 2 ^ 28 = c.requires.few in
    omega (arith, size, few)

pub counts-counts-requires-clause-short : goal.counts-counts-requires-clause-short
counts-counts-requires-clause-short g c =
    subst (λ (l : List (Option Node)). AreShort l) (sym c.deref-3.ensures.value) (table-short c.args.tree.now c.args.only c.args.cache.now c.run_all.new.table.items c.in_ok-run_all.ensures.goes.right)

pub returns-in_err-entries-clause-loads : goal.returns-in_err-entries-clause-loads
returns-in_err-entries-clause-loads g c =
    loads-bound c.args.tree.now c.args.only c.args.cache.now c.in_ok-table.table.items (tally (sum_by g.K.Kit.loads c.args.kits.now) (sum_by g.K.Kit.runs c.args.kits.now)) (tally (sum_by g.K.Kit.loads c.run_all.new.kits) (sum_by g.K.Kit.runs c.run_all.new.kits)) c.in_ok-table.ensures
    (stops-goes c.args.tree.now c.args.only c.args.cache.now c.in_ok-table.table.items c.run_all.new.table.items (tally (sum_by g.K.Kit.loads c.args.kits.now) (sum_by g.K.Kit.runs c.args.kits.now)) (tally (sum_by g.K.Kit.loads c.run_all.new.kits) (sum_by g.K.Kit.runs c.run_all.new.kits)) c.in_ok-run_all.ensures.goes)

pub returns-in_err-entries-clause-runs : goal.returns-in_err-entries-clause-runs
returns-in_err-entries-clause-runs g c =
    runs-bound c.args.tree.now c.args.only c.args.cache.now c.in_ok-table.table.items (tally (sum_by g.K.Kit.loads c.args.kits.now) (sum_by g.K.Kit.runs c.args.kits.now)) (tally (sum_by g.K.Kit.loads c.run_all.new.kits) (sum_by g.K.Kit.runs c.run_all.new.kits)) c.in_ok-table.ensures
    (stops-goes c.args.tree.now c.args.only c.args.cache.now c.in_ok-table.table.items c.run_all.new.table.items (tally (sum_by g.K.Kit.loads c.args.kits.now) (sum_by g.K.Kit.runs c.args.kits.now)) (tally (sum_by g.K.Kit.loads c.run_all.new.kits) (sum_by g.K.Kit.runs c.run_all.new.kits)) c.in_ok-run_all.ensures.goes)

pub returns-in_err-entries-clause-cut_off : goal.returns-in_err-entries-clause-cut_off
returns-in_err-entries-clause-cut_off g c = λ honest.
    let h = cut-stops c.args.tree.now c.args.only c.args.cache.now c.in_ok-table.table.items (tally (sum_by g.K.Kit.loads c.args.kits.now) (sum_by g.K.Kit.runs c.args.kits.now)) (tally (sum_by g.K.Kit.loads c.run_all.new.kits) (sum_by g.K.Kit.runs c.run_all.new.kits)) honest c.in_ok-table.ensures
    (stops-goes c.args.tree.now c.args.only c.args.cache.now c.in_ok-table.table.items c.run_all.new.table.items (tally (sum_by g.K.Kit.loads c.args.kits.now) (sum_by g.K.Kit.runs c.args.kits.now)) (tally (sum_by g.K.Kit.loads c.run_all.new.kits) (sum_by g.K.Kit.runs c.run_all.new.kits)) c.in_ok-run_all.ensures.goes) in
    search (rules, h)

pub returns-in_err-facts-clause-loads : goal.returns-in_err-facts-clause-loads
returns-in_err-facts-clause-loads g c =
    loads-bound c.args.tree.now c.args.only c.args.cache.now c.in_ok-table.table.items (tally (sum_by g.K.Kit.loads c.args.kits.now) (sum_by g.K.Kit.runs c.args.kits.now)) (tally (sum_by g.K.Kit.loads c.run_all.new.kits) (sum_by g.K.Kit.runs c.run_all.new.kits)) c.in_ok-table.ensures
    (stops-goes c.args.tree.now c.args.only c.args.cache.now c.in_ok-table.table.items c.run_all.new.table.items (tally (sum_by g.K.Kit.loads c.args.kits.now) (sum_by g.K.Kit.runs c.args.kits.now)) (tally (sum_by g.K.Kit.loads c.run_all.new.kits) (sum_by g.K.Kit.runs c.run_all.new.kits)) c.in_ok-run_all.ensures.goes)

pub returns-in_err-facts-clause-runs : goal.returns-in_err-facts-clause-runs
returns-in_err-facts-clause-runs g c =
    runs-bound c.args.tree.now c.args.only c.args.cache.now c.in_ok-table.table.items (tally (sum_by g.K.Kit.loads c.args.kits.now) (sum_by g.K.Kit.runs c.args.kits.now)) (tally (sum_by g.K.Kit.loads c.run_all.new.kits) (sum_by g.K.Kit.runs c.run_all.new.kits)) c.in_ok-table.ensures
    (stops-goes c.args.tree.now c.args.only c.args.cache.now c.in_ok-table.table.items c.run_all.new.table.items (tally (sum_by g.K.Kit.loads c.args.kits.now) (sum_by g.K.Kit.runs c.args.kits.now)) (tally (sum_by g.K.Kit.loads c.run_all.new.kits) (sum_by g.K.Kit.runs c.run_all.new.kits)) c.in_ok-run_all.ensures.goes)

pub returns-in_err-facts-clause-cut_off : goal.returns-in_err-facts-clause-cut_off
returns-in_err-facts-clause-cut_off g c = λ honest.
    let h = cut-stops c.args.tree.now c.args.only c.args.cache.now c.in_ok-table.table.items (tally (sum_by g.K.Kit.loads c.args.kits.now) (sum_by g.K.Kit.runs c.args.kits.now)) (tally (sum_by g.K.Kit.loads c.run_all.new.kits) (sum_by g.K.Kit.runs c.run_all.new.kits)) honest c.in_ok-table.ensures
    (stops-goes c.args.tree.now c.args.only c.args.cache.now c.in_ok-table.table.items c.run_all.new.table.items (tally (sum_by g.K.Kit.loads c.args.kits.now) (sum_by g.K.Kit.runs c.args.kits.now)) (tally (sum_by g.K.Kit.loads c.run_all.new.kits) (sum_by g.K.Kit.runs c.run_all.new.kits)) c.in_ok-run_all.ensures.goes) in
    search (rules, h)

pub keep-requires : goal.keep-requires
keep-requires g c = (all_entries c.run_all.new.table.items, (c.in_ok-entries.ensures ∙ ap (λ (l : List (Option Node)). map Some (all_entries l)) c.deref-4.ensures.value), (can-keep c.args.tree.now c.args.only c.args.cache.now c.run_all.new.table.items c.requires.tree c.in_ok-run_all.ensures.goes.right))

pub returns-in_err-keep-clause-loads : goal.returns-in_err-keep-clause-loads
returns-in_err-keep-clause-loads g c =
    loads-bound c.args.tree.now c.args.only c.args.cache.now c.in_ok-table.table.items (tally (sum_by g.K.Kit.loads c.args.kits.now) (sum_by g.K.Kit.runs c.args.kits.now)) (tally (sum_by g.K.Kit.loads c.run_all.new.kits) (sum_by g.K.Kit.runs c.run_all.new.kits)) c.in_ok-table.ensures
    (stops-goes c.args.tree.now c.args.only c.args.cache.now c.in_ok-table.table.items c.run_all.new.table.items (tally (sum_by g.K.Kit.loads c.args.kits.now) (sum_by g.K.Kit.runs c.args.kits.now)) (tally (sum_by g.K.Kit.loads c.run_all.new.kits) (sum_by g.K.Kit.runs c.run_all.new.kits)) c.in_ok-run_all.ensures.goes)

pub returns-in_err-keep-clause-runs : goal.returns-in_err-keep-clause-runs
returns-in_err-keep-clause-runs g c =
    runs-bound c.args.tree.now c.args.only c.args.cache.now c.in_ok-table.table.items (tally (sum_by g.K.Kit.loads c.args.kits.now) (sum_by g.K.Kit.runs c.args.kits.now)) (tally (sum_by g.K.Kit.loads c.run_all.new.kits) (sum_by g.K.Kit.runs c.run_all.new.kits)) c.in_ok-table.ensures
    (stops-goes c.args.tree.now c.args.only c.args.cache.now c.in_ok-table.table.items c.run_all.new.table.items (tally (sum_by g.K.Kit.loads c.args.kits.now) (sum_by g.K.Kit.runs c.args.kits.now)) (tally (sum_by g.K.Kit.loads c.run_all.new.kits) (sum_by g.K.Kit.runs c.run_all.new.kits)) c.in_ok-run_all.ensures.goes)

pub returns-in_err-keep-clause-cut_off : goal.returns-in_err-keep-clause-cut_off
returns-in_err-keep-clause-cut_off g c = λ honest.
    let part = c.in_err-keep.ensures.part (all_entries c.run_all.new.table.items) (c.in_ok-entries.ensures ∙ ap (λ (l : List (Option Node)). map Some (all_entries l)) c.deref-4.ensures.value) in
    let h = cut-in_keep c.args.tree.now c.args.only c.args.cache.now c.keep.new.cache c.in_ok-table.table.items c.run_all.new.table.items (tally (sum_by g.K.Kit.loads c.args.kits.now) (sum_by g.K.Kit.runs c.args.kits.now)) (tally (sum_by g.K.Kit.loads c.run_all.new.kits) (sum_by g.K.Kit.runs c.run_all.new.kits)) part.0
    honest c.in_ok-table.ensures c.in_ok-run_all.ensures.goes (stops-goes c.args.tree.now c.args.only c.args.cache.now c.in_ok-table.table.items c.run_all.new.table.items (tally (sum_by g.K.Kit.loads c.args.kits.now) (sum_by g.K.Kit.runs c.args.kits.now)) (tally (sum_by g.K.Kit.loads c.run_all.new.kits) (sum_by g.K.Kit.runs c.run_all.new.kits)) c.in_ok-run_all.ensures.goes) c.in_ok-run_all.ensures.done (can-keep c.args.tree.now c.args.only c.args.cache.now c.run_all.new.table.items c.requires.tree c.in_ok-run_all.ensures.goes.right) part.1 in
    search (rules, h)

pub returns-in_err-keep-clause-honest : goal.returns-in_err-keep-clause-honest
returns-in_err-keep-clause-honest g c = λ honest.
    let part = c.in_err-keep.ensures.part (all_entries c.run_all.new.table.items) (c.in_ok-entries.ensures ∙ ap (λ (l : List (Option Node)). map Some (all_entries l)) c.deref-4.ensures.value) in
    subst (λ (l : List Entry). IsHonest l) (sym part.1) (kept-honest c.args.cache.now (all_entries c.run_all.new.table.items) part.0 (can-keep c.args.tree.now c.args.only c.args.cache.now c.run_all.new.table.items c.requires.tree c.in_ok-run_all.ensures.goes.right) honest)

pub returns-clause-loads : goal.returns-clause-loads
returns-clause-loads g c =
    loads-bound c.args.tree.now c.args.only c.args.cache.now c.in_ok-table.table.items (tally (sum_by g.K.Kit.loads c.args.kits.now) (sum_by g.K.Kit.runs c.args.kits.now)) (tally (sum_by g.K.Kit.loads c.run_all.new.kits) (sum_by g.K.Kit.runs c.run_all.new.kits)) c.in_ok-table.ensures
    (stops-goes c.args.tree.now c.args.only c.args.cache.now c.in_ok-table.table.items c.run_all.new.table.items (tally (sum_by g.K.Kit.loads c.args.kits.now) (sum_by g.K.Kit.runs c.args.kits.now)) (tally (sum_by g.K.Kit.loads c.run_all.new.kits) (sum_by g.K.Kit.runs c.run_all.new.kits)) c.in_ok-run_all.ensures.goes)

pub returns-clause-runs : goal.returns-clause-runs
returns-clause-runs g c =
    runs-bound c.args.tree.now c.args.only c.args.cache.now c.in_ok-table.table.items (tally (sum_by g.K.Kit.loads c.args.kits.now) (sum_by g.K.Kit.runs c.args.kits.now)) (tally (sum_by g.K.Kit.loads c.run_all.new.kits) (sum_by g.K.Kit.runs c.run_all.new.kits)) c.in_ok-table.ensures
    (stops-goes c.args.tree.now c.args.only c.args.cache.now c.in_ok-table.table.items c.run_all.new.table.items (tally (sum_by g.K.Kit.loads c.args.kits.now) (sum_by g.K.Kit.runs c.args.kits.now)) (tally (sum_by g.K.Kit.loads c.run_all.new.kits) (sum_by g.K.Kit.runs c.run_all.new.kits)) c.in_ok-run_all.ensures.goes)

pub returns-clause-stand : goal.returns-clause-stand
returns-clause-stand g c =
    let tree = c.args.tree.now in
    let table = c.run_all.new.table.items in
    let list = c.new.result in
    let shown : AreShown tree table list (length tree) = subst (λ (v : List Verdict). AreShown tree table v (length tree)) (sym c.new.ensures)
    (subst (λ (l : List (Option Node)). AreShown tree l c.in_ok-list.list.items (length tree)) c.deref.ensures.value c.in_ok-list.ensures) in
    report-stands tree table list c.in_ok-run_all.ensures.goes.right.size shown

pub returns-clause-found : goal.returns-clause-found
returns-clause-found g c =
    let tree = c.args.tree.now in
    let table = c.run_all.new.table.items in
    let list = c.new-2.result in
    let shown : AllFoundShown tree table list (length tree) = subst (λ (v : List (List Diagnostic)). AllFoundShown tree table v (length tree)) (sym c.new-2.ensures)
    (subst (λ (l : List (Option Node)). AllFoundShown tree l c.in_ok-found.found.items (length tree)) c.deref-2.ensures.value c.in_ok-found.ensures) in
    found-stands tree table list c.in_ok-run_all.ensures.goes.right.size shown

pub returns-clause-facts : goal.returns-clause-facts
returns-clause-facts g c =
    let table = c.run_all.new.table.items in
    let facts : c.new-3.result ≡ map told_at table = c.new-3.ensures ∙ (c.in_ok-facts.ensures ∙ ap (λ (l : List (Option Node)). map told_at l) c.deref-5.ensures.value) in
    ap (λ (l : List (List (ℕ × List ℕ))). length l) facts ∙ (length-map table told_at ∙ c.in_ok-run_all.ensures.goes.right.size)

pub returns-clause-ran : goal.returns-clause-ran
returns-clause-ran g c = λ honest.
    let tree = c.args.tree.now in
    let table = c.run_all.new.table.items in
    let list = c.new.result in
    let found = c.new-2.result in
    let counts = c.counts-counts.result in
    let shown : AreShown tree table list (length tree) = subst (λ (v : List Verdict). AreShown tree table v (length tree)) (sym c.new.ensures)
    (subst (λ (l : List (Option Node)). AreShown tree l c.in_ok-list.list.items (length tree)) c.deref.ensures.value c.in_ok-list.ensures) in
    let told : AllFoundShown tree table found (length tree) = subst (λ (v : List (List Diagnostic)). AllFoundShown tree table v (length tree)) (sym c.new-2.ensures)
    (subst (λ (l : List (Option Node)). AllFoundShown tree l c.in_ok-found.found.items (length tree)) c.deref-2.ensures.value c.in_ok-found.ensures) in
    let facts : c.new-3.result ≡ map told_at table = c.new-3.ensures ∙ (c.in_ok-facts.ensures ∙ ap (λ (l : List (Option Node)). map told_at l) c.deref-5.ensures.value) in
    ran-right c.findings_stand.ensures tree c.args.only c.args.cache.now c.keep.new.cache c.in_ok-table.table.items table (tally (sum_by g.K.Kit.loads c.args.kits.now) (sum_by g.K.Kit.runs c.args.kits.now)) (tally (sum_by g.K.Kit.loads c.run_all.new.kits) (sum_by g.K.Kit.runs c.run_all.new.kits))
    (record { verdicts = list; found = found; facts = c.new-3.result; counts = counts }) honest c.in_ok-table.ensures c.in_ok-run_all.ensures.goes c.in_ok-run_all.ensures.done (can-keep c.args.tree.now c.args.only c.args.cache.now c.run_all.new.table.items c.requires.tree c.in_ok-run_all.ensures.goes.right)
    (c.in_ok-keep.ensures.whole (all_entries c.run_all.new.table.items) (c.in_ok-entries.ensures ∙ ap (λ (l : List (Option Node)). map Some (all_entries l)) c.deref-4.ensures.value)) shown told facts
    (c.counts-counts.ensures.nodes ∙ ap (λ (l : List (Option Node)). sum_by nodes_in l) c.deref-3.ensures.value)
    (c.counts-counts.ensures.missing ∙ ap (λ (l : List (Option Node)). sum_by missing_in l) c.deref-3.ensures.value)
    (c.counts-counts.ensures.loads ∙ ap (λ (l : List (Option Node)). sum_by loads_in l) c.deref-3.ensures.value)
    (c.counts-counts.ensures.runs ∙ ap (λ (l : List (Option Node)). sum_by runs_in l) c.deref-3.ensures.value)

pub returns-clause-honest : goal.returns-clause-honest
returns-clause-honest g c = λ honest.
    subst (λ (l : List Entry). IsHonest l) (sym (c.in_ok-keep.ensures.whole (all_entries c.run_all.new.table.items) (c.in_ok-entries.ensures ∙ ap (λ (l : List (Option Node)). map Some (all_entries l)) c.deref-4.ensures.value))) (kept-all c.args.cache.now (all_entries c.run_all.new.table.items) (can-keep c.args.tree.now c.args.only c.args.cache.now c.run_all.new.table.items c.requires.tree c.in_ok-run_all.ensures.goes.right) honest)
