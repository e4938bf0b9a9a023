-- What an analyzer finds of an accepted package, by its path, its files and what is seen of the packages of its environment;
-- and what comes of its run, by its texts alone. Nothing here reads a cache.
use Rattle.std.specs.Prelude.{◌≡◌, ℕ, Some, List, [], map, slice_get}
use Rattle.mark_walk.specs.Asks.{IsTheAnnotation}
use Rattle.typed_marks.specs.declared.item.Item.{Item}
use Rattle.typed_marks.specs.Meanings.{Meaning}
use Rattle.unit_read.specs.Units.{Unit}
use Rattle.elaborate.specs.Walks.{item_rule}
use Rattle.type_answers.specs.Answering.{says_of}
use Rattle.go_rules.specs.Stages.{rule}
use Rattle.check_pkg.specs.declared.judging.Checked.{Checked}
use Rattle.check_pkg.specs.declared.judging.Outcome.TheVariants as outcome
use Rattle.check_pkg.specs.Checks.{IsOutcomeOf as Comes}
use Rattle.check_pkg.specs.Packages.{Package}
use Rattle.analysis_core.specs.declared.diagnostic.Diagnostic.{Diagnostic}
use Rattle.analysis_core.specs.Findings.{AreFindings}
use Rattle.handed_facts.specs.Handed.{ArePathsApart}
use Rattle.vet_suite.specs.Free.{path_of}
use Rattle.vet_suite.specs.Suite.{FactsBy, FoundBy}
use Rattle.action_graph.specs.declared.kit.LoadInput.{LoadInput}
use Rattle.action_graph.specs.declared.kit.RunInput.{RunInput}
use Rattle.action_graph.specs.declared.kit.RunOf.{RunOf}
use Rattle.action_graph.specs.declared.kit.RunOutcome.{RunOutcome}
use Rattle.action_graph.specs.Nodes.{Named, AreNamed, run_texts}
use Rattle.action_graph.specs.Work.{IsAnalyzer}
use Rattle.action_graph.specs.Judging.{Env, IsPackageOf, AreInterfaces, IsLawful}
use Rattle.action_graph.specs.Outcomes.{outcome_text, run_text}

-- Nothing refuses the package, and of its one annotation these are reported and these are the facts, where these are given of others.
pub record IsAnalyzed (analyzer : ℕ) (p : Package) (env : Env) (given : List Named) (findings facts : List ℕ) : Type 0 where
  pub checked : Checked
  pub comes : Comes rule p env (outcome.Checked checked)
  pub none : checked.refused.items ≡ []
  pub marks : Item → Meaning
  pub annotated : IsTheAnnotation (says_of comes.unit) (item_rule rule comes.unit) marks
  pub found : List Diagnostic
  pub right : FoundBy analyzer comes.unit marks (map path_of p.files) given found
  pub spelled : AreFindings found findings
  pub facts_are : FactsBy analyzer comes.unit marks given facts

-- The analyzers: what is found by the one of this number of the package of this path, with these files, over what is seen
-- of others and over these facts of theirs, and which facts. A run knows of this relation no more than that there is one.
unfoldable pub Analyzes : ℕ → List ℕ → List Named → Env → List Named → List ℕ → List ℕ → Type 0
Analyzes analyzer path files env given findings facts = (p : Package) × (IsPackageOf path files p × IsAnalyzed analyzer p env given findings facts)

-- An input that a run may be asked for: that of a lawful load, an analyzer, and facts of named packages.
pub record IsRunLawful (input : RunInput) : Type 0 where
  pub load : IsLawful input.load
  pub number : IsAnalyzer input.analyzer
  pub named : AreNamed input.facts

-- What comes of a run, by its input alone.
pub record IsRunOutcome (input : RunInput) (text : List ℕ) : Type 0 where
  pub env : Env
  pub findings : List ℕ
  pub facts : List ℕ
  pub faces : AreInterfaces input.load.env env
  pub analyzes : Analyzes input.analyzer input.load.path input.load.files env input.facts findings facts
  pub tells : text ≡ outcome_text findings facts

-- what a run over a package with this load reads
abbrev pub run_of : LoadInput → RunOf → RunInput
run_of load r = record { analyzer = r.analyzer; load = load; facts = r.facts }

-- of each package facts are given once
abbrev pub AreGivenOnce : List RunOf → Type 0
AreGivenOnce asked = (k : ℕ) (r : RunOf) → slice_get asked k ≡ Some r → ArePathsApart r.facts

-- these come of the runs that are asked for over a package with this load, each where it may be asked for
abbrev pub AreRunOutcomes : LoadInput → List RunOf → List RunOutcome → Type 0
AreRunOutcomes load asked outcomes = (k : ℕ) (r : RunOf) (o : RunOutcome) → slice_get asked k ≡ Some r → slice_get outcomes k ≡ Some o → IsRunLawful (run_of load r) → IsRunOutcome (run_of load r) (run_text o)

-- these are the texts of a lawful input of this analyzer, and this is what comes of it
pub record IsRunOutcomeOf (analyzer : ℕ) (texts : List (List ℕ)) (text : List ℕ) : Type 0 where
  pub run : RunInput
  pub of : run.analyzer ≡ analyzer
  pub is : texts ≡ run_texts run
  pub lawful : IsRunLawful run
  pub outcome : IsRunOutcome run text
