-- The inputs of a tree's nodes: of its loads, and of the runs of analyzers.
use Rattle.std.specs.Prelude.{◌≡◌, ℕ, zero, suc, true, Some, List, [], ◌∷◌, ◌++◌, length, map, slice_get}
use Rattle.export_text.specs.Faces.{IsFaceText}
use Rattle.package_faces.specs.Faces.{Face}
use Rattle.action_graph.specs.declared.kit.LoadInput.{LoadInput}
use Rattle.action_graph.specs.declared.kit.RunInput.{RunInput}
use Rattle.action_graph.specs.Nodes.{Named, load_texts, run_texts}
use Rattle.action_graph.specs.Judging.{Env}
use Rattle.action_graph.specs.Judging.Judged.{Accepts}
use Rattle.fact_cache.specs.declared.texts.Input.{Input}
use Rattle.gv_driver.specs.declared.tree.PackageTexts.{PackageTexts}
use Rattle.gv_driver.specs.Analyzers.{analyzers_of}
use Rattle.gv_driver.specs.Facts.{IsGiven}
use Rattle.gv_driver.specs.Whole.{Checked, IsEnv}

-- the path of a package, and the text of what is seen of it
pub record IsExport (tree : List PackageTexts) (q : ℕ) (f : Face) (x : Named) : Type 0 where
  pub other : PackageTexts
  pub at : slice_get tree q ≡ Some other
  pub path : x.0 ≡ other.path
  pub spelled : IsFaceText f x.1

-- those of exactly these packages, in turn
pub record AreExports (tree : List PackageTexts) (numbers : List ℕ) (faces : Env) (pairs : List Named) : Type 0 where
  pub size : length pairs ≡ length numbers
  pub each : (k q : ℕ) (f : Face) (x : Named) → slice_get numbers k ≡ Some q → slice_get faces k ≡ Some f → slice_get pairs k ≡ Some x → IsExport tree q f x

-- What the load of p reads, where p has a load: its path, its files, and the export texts of its environment by mentions.
pub record IsLoadOf (tree : List PackageTexts) (p : ℕ) (load : LoadInput) : Type 0 where
  pub pack : PackageTexts
  pub at : slice_get tree p ≡ Some pack
  pub sound : pack.sound ≡ true
  pub path : load.path ≡ pack.path
  pub files : load.files ≡ pack.files
  pub numbers : List ℕ
  pub faces : Env
  pub are : IsEnv tree p numbers faces
  pub env : AreExports tree numbers faces load.env

-- the input beside which the outcome of a load is kept
abbrev pub load_input : LoadInput → Input
load_input load = record { node = 0; texts = load_texts load }

pub record IsInput (tree : List PackageTexts) (p : ℕ) (input : Input) : Type 0 where
  pub load : LoadInput
  pub of : IsLoadOf tree p load
  pub is : input ≡ load_input load

-- what the analyzer's run over p reads
pub record IsRunOf (tree : List PackageTexts) (a p : ℕ) (run : RunInput) : Type 0 where
  pub analyzer : run.analyzer ≡ a
  pub of : IsLoadOf tree p run.load
  pub given : IsGiven tree a of.numbers run.facts

-- what the run of an analyzer reads, over a package with this load, where these facts are for it
abbrev pub run_over : (ℕ → List Named) → ℕ → LoadInput → RunInput
run_over given a load = record { analyzer = a; load = load; facts = given a }

-- the input beside which the outcome of a run is kept
abbrev pub run_input : RunInput → Input
run_input run = record { node = run.analyzer; texts = run_texts run }

abbrev pub run_key : (ℕ → List Named) → LoadInput → ℕ → Input
run_key given load a = run_input (run_over given a load)

abbrev pub run_keys : (ℕ → List Named) → LoadInput → List ℕ → List Input
run_keys given load numbers = map (run_key given load) numbers

-- the input of the run of the analyzer at this place among those that run over an accepted package
pub record IsRunInput (tree : List PackageTexts) (only p k : ℕ) (input : Input) : Type 0 where
  pub load : LoadInput
  pub of : IsLoadOf tree p load
  pub face : Face
  pub good : Checked tree p (Accepts face)
  pub analyzer : ℕ
  pub chosen : slice_get (analyzers_of only of.pack.stub) k ≡ Some analyzer
  pub given : ℕ → List Named
  pub are_given : IsGiven tree analyzer of.numbers (given analyzer)
  pub is : input ≡ run_key given load analyzer

-- the input of a node of p: of its load, or of the run at the place before
abbrev pub IsNodeInput : List PackageTexts → ℕ → ℕ → ℕ → Input → Type 0
IsNodeInput tree only p zero input = IsInput tree p input
IsNodeInput tree only p (suc k) input = IsRunInput tree only p k input

-- The inputs of all nodes of a tree: at each package's number those of its nodes, the load first.
pub record IsPlan (tree : List PackageTexts) (only : ℕ) (plan : List (List Input)) : Type 0 where
  pub size : length plan ≡ length tree
  pub right : (p k : ℕ) (inputs : List Input) (input : Input) → slice_get plan p ≡ Some inputs → slice_get inputs k ≡ Some input → IsNodeInput tree only p k input
  pub every : (p k : ℕ) (inputs : List Input) (input : Input) → slice_get plan p ≡ Some inputs → IsNodeInput tree only p k input → slice_get inputs k ≡ Some input

-- in node order
abbrev pub all_inputs : List (List Input) → List Input
all_inputs [] = []
all_inputs (inputs ∷ more) = inputs ++ all_inputs more
