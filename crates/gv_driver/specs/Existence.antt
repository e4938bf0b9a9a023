-- That something comes of each tree: a statement of existence is the denial that there is none.
use Rattle.std.specs.Prelude.{ℕ, List}
use Rattle.analysis_core.specs.declared.diagnostic.Diagnostic.{Diagnostic}
use Rattle.action_graph.specs.declared.kit.LoadInput.{LoadInput}
use Rattle.action_graph.specs.declared.kit.RunInput.{RunInput}
use Rattle.action_graph.specs.Analyzing.{IsRunLawful, IsRunOutcome}
use Rattle.action_graph.specs.Judging.{IsLawful, IsOutcome, IsStuck, accepted_text}
use Rattle.fact_cache.specs.declared.texts.Input.{Input}
use Rattle.fact_cache.specs.declared.list.Entry.{Entry}
use Rattle.gv_driver.specs.declared.tree.PackageTexts.{PackageTexts}
use Rattle.gv_driver.specs.declared.reply.Verdict.{Verdict}
use Rattle.gv_driver.specs.Caches.{IsCacheAfter}
use Rattle.gv_driver.specs.Loads.{IsPlan, all_inputs}
use Rattle.gv_driver.specs.Reports.{IsFactReport, IsReport, IsRunReport}

-- no lawful load but a stuck one is without an outcome
abbrev pub AllHaveOutcomes : Type 0
AllHaveOutcomes = (load : LoadInput) → IsLawful load → (IsStuck load → ⊥) → ((text : List ℕ) → IsOutcome load text → ⊥) → ⊥

-- no lawful run over an accepted load is without an outcome
abbrev pub AllRunsHaveOutcomes : Type 0
AllRunsHaveOutcomes = (run : RunInput) (export : List ℕ) → IsRunLawful run → IsOutcome run.load (accepted_text export) → ((text : List ℕ) → IsRunOutcome run text → ⊥) → ⊥

-- the tree isn't without verdicts, what the analyzers find, their facts, inputs of its nodes, and the cache that a run leaves
abbrev pub HasRun : List PackageTexts → ℕ → List Entry → Type 0
HasRun tree only before =
    ((verdicts : List Verdict) (found : List (List Diagnostic)) (facts : List (List (ℕ × List ℕ))) (plan : List (List Input)) (after : List Entry) → IsReport tree verdicts → IsRunReport tree only verdicts found → IsFactReport tree only verdicts facts → IsPlan tree only plan
    → IsCacheAfter before after (all_inputs plan) → ⊥)
    → ⊥
