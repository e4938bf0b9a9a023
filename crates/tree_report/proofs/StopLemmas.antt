-- Runs over the files of a tree that were cut off.
use Rattle.std.proofs.Common.{◌≡◌, ℕ, Option, List, map, subst}
use Rattle.std.specs.Prelude.{Result, Ok, Err, OnErr}
use Rattle.gv_base.specs.Files.{Entry}
use Rattle.go_tree.specs.declared.head.Head.{Head}
use Rattle.parse_file.specs.declared.verdict.FileVerdict.{FileVerdict}
use Rattle.import_graph.specs.declared.pack.Package.{Package}
use Rattle.fact_cache.specs.declared.list.Entry.{Entry as Kept}
use Rattle.gv_driver.specs.declared.tree.PackageTexts.{PackageTexts}
use Rattle.gv_driver.specs.declared.reply.Judgement.{Judgement}
use Rattle.gv_driver.specs.Runs.{IsCutOff, Ran}
use Rattle.gv_driver.specs.Tallies.{Tally}
use Rattle.gv_driver.proofs.RunLaws.{ran-cut}
use Rattle.analysis_core.specs.declared.command.Command.{Command}
use Rattle.tree_findings.specs.Telling.{chosen_by}
use Rattle.tree_report.specs.Form.{IsForm}
use Rattle.tree_report.specs.Reports.{texts_of, IsStopped}
use Rattle.tree_report.specs.Reports.IsStopped.{in_run}

-- what holds anyhow holds of an error
pub on_any_err : {A E : Type 0} {P : Type 0} (r : Result A E) → P → OnErr r P
on_any_err (Ok a) p = tt
on_any_err (Err e) p = p

-- what is said of the texts that were made is said of the packages
pub stopped : (asked : Command) (only : ℕ) (tree : List Entry) (v : List (Option FileVerdict)) (h : List (Option Head)) (p : List Package) (texts : List PackageTexts) (before after : List Kept) (count now : Tally) → IsForm tree v h p
    → texts ≡ map (texts_of tree) p → IsCutOff texts (chosen_by asked only) before after count now → IsStopped asked only tree before after count now
stopped asked only tree v h p texts before after count now form is cut = in_run v h p form (subst (λ (l : List PackageTexts). IsCutOff l (chosen_by asked only) before after count now) is cut)

-- the same where the run came to its end, and memory was wanting for what is made of its answer
pub stopped-after : (asked : Command) (only : ℕ) (tree : List Entry) (v : List (Option FileVerdict)) (h : List (Option Head)) (p : List Package) (texts : List PackageTexts) (before after : List Kept) (count now : Tally) (told : Judgement) → IsForm tree v h p
    → texts ≡ map (texts_of tree) p → Ran texts (chosen_by asked only) before after count now told → IsStopped asked only tree before after count now
stopped-after asked only tree v h p texts before after count now told form is ran = stopped asked only tree v h p texts before after count now form is (ran-cut texts (chosen_by asked only) before after count now told ran)
