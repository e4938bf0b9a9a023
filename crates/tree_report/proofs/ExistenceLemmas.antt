-- Where no lawful load but a stuck one is without an outcome, no tree that can be read and in which no package is stuck is without a reply.
use Rattle.std.proofs.Common.{ℕ, inl, inr, List, map, length, refl, ap}
use Rattle.gv_base.specs.Files.{Entry, AreInOrder}
use Rattle.analysis_core.specs.declared.command.Command.{Command}
use Rattle.analysis_core.specs.declared.reply.Counts.{Counts}
use Rattle.fact_cache.specs.declared.list.Entry.{Entry as Kept}
use Rattle.gv_driver.specs.declared.tree.PackageTexts.{PackageTexts}
use Rattle.gv_driver.specs.Trees.{IsTree}
use Rattle.gv_driver.specs.Caches.{loads_of, missing_of, runs_of}
use Rattle.gv_driver.specs.Loads.{all_inputs}
use Rattle.gv_driver.specs.Existence.{AllHaveOutcomes, AllRunsHaveOutcomes, HasRun}
use Rattle.gv_driver.specs.Whole.{HasStuck}
use Rattle.fact_lines.specs.Lines.{all_facts}
use Rattle.tree_findings.specs.Lines.{all_lines}
use Rattle.tree_findings.specs.Telling.{chosen_by}
use Rattle.tree_findings.proofs.ToldLemmas.{told-exists}
use Rattle.tree_report.specs.Existence.{HasReport}
use Rattle.tree_report.specs.Lines.{error_lines}
use Rattle.tree_report.specs.Reports.{limit_reply, texts_of}
use Rattle.tree_report.specs.Reports.Reports.{of_limit, of_packages}
use Rattle.tree_report.proofs.TreeLemmas.{is-tree}

-- what comes of the packages of a tree comes of each
abbrev pub EachHasRun : Type 0
EachHasRun = AllHaveOutcomes → AllRunsHaveOutcomes → (tree : List PackageTexts) (only : ℕ) → IsTree tree → (HasStuck tree → ⊥) → (before : List Kept) → HasRun tree only before

pub report-exists : EachHasRun → AllHaveOutcomes → AllRunsHaveOutcomes → (asked : Command) (only : ℕ) (tree : List Entry) → AreInOrder tree → (before : List Kept) → HasReport asked only tree before
report-exists each outcomes analyses asked only tree ordered before (inl over) goes none =
    none before (limit_reply over.0) (of_limit (record { limit = over.0; first = over.1; replies = refl }) refl)
report-exists each outcomes analyses asked only tree ordered before (inr read) goes none =
    let verdicts = read.0 in
    let heads = read.1.0 in
    let packages = read.1.1.0 in
    let form = read.1.1.1 in
    each outcomes analyses (map (texts_of tree) packages) (chosen_by asked only) (is-tree tree verdicts heads packages ordered form) (λ stuck. goes (record { verdicts = verdicts; heads = heads; packages = packages; form = form; stuck = stuck })) before (λ found findings facts plan after is finds given is_plan cache.
    let counts : Counts = record { nodes = length (all_inputs plan); missing = length (missing_of before (all_inputs plan)); loads = loads_of before plan; runs = runs_of before plan } in
    told-exists asked tree (all_lines packages findings) (all_facts packages facts) (length packages) (error_lines heads verdicts packages found) counts (λ reply told size errors counted.
    none after reply (of_packages (record {
      verdicts = verdicts;
      heads = heads;
      packages = packages;
      form = form;
      outcomes = found;
      outcome = is;
      findings = findings;
      finds = finds;
      facts = facts;
      given = given;
      plan = plan;
      is_plan = is_plan;
      cache = cache;
      told = told;
      size = size;
      errors = errors;
      nodes = ap (λ (c : Counts). c.nodes) counted;
      missing = ap (λ (c : Counts). c.missing) counted;
      loads = ap (λ (c : Counts). c.loads) counted;
      runs = ap (λ (c : Counts). c.runs) counted;
    }))))
