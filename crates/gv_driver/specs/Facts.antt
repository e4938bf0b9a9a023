-- Which facts an analyzer gives of the packages of a tree, from their sources: of a package over the facts of the packages of its environment.
-- This knows neither cache nor outcome texts.
use Rattle.std.specs.Prelude.{◌≡◌, ℕ, Bool, true, false, Some, List, [], length, slice_get}
use Rattle.action_graph.specs.Nodes.{Named}
use Rattle.action_graph.specs.Analyzing.{Analyzes}
use Rattle.action_graph.specs.Judging.{Env}
use Rattle.action_graph.specs.Work.{has_facts}
use Rattle.gv_driver.specs.declared.tree.PackageTexts.{PackageTexts}
use Rattle.gv_driver.specs.Whole.{IsEnv}

-- beside the path of each of these packages there is a text
pub record AreBeside (tree : List PackageTexts) (numbers : List ℕ) (given : List Named) : Type 0 where
  pub size : length given ≡ length numbers
  pub paths : (k q : ℕ) (other : PackageTexts) (x : Named) → slice_get numbers k ≡ Some q → slice_get tree q ≡ Some other → slice_get given k ≡ Some x → x.0 ≡ other.path

-- of these packages and the text beside each, in turn, q is one and this is the text
abbrev pub Gives : List ℕ → List Named → ℕ → List ℕ → Type 0
Gives numbers given q text = (k : ℕ) × (x : Named) × (slice_get numbers k ≡ Some q) × (slice_get given k ≡ Some x) × (x.1 ≡ text)

-- The facts that the analyzer gives of p, where it is given those of the packages of p's environment; these come of the tree in the same way.
pub data HasFacts (tree : List PackageTexts) (a : ℕ) : ℕ → List ℕ → Type 0 where
  facts_over : (p : ℕ) (pack : PackageTexts) (numbers : List ℕ) (env : Env) (given : List Named) (findings facts : List ℕ)
      → slice_get tree p ≡ Some pack
      → IsEnv tree p numbers env
      → AreBeside tree numbers given
      → ((q : ℕ) (text : List ℕ) → Gives numbers given q text → HasFacts tree a q text)
      → Analyzes a pack.path pack.files env given findings facts
      → HasFacts tree a p facts

-- the facts of these packages
pub record AreFactsOf (tree : List PackageTexts) (a : ℕ) (numbers : List ℕ) (given : List Named) : Type 0 where
  pub beside : AreBeside tree numbers given
  pub facts : (q : ℕ) (text : List ℕ) → Gives numbers given q text → HasFacts tree a q text

abbrev pub IsGivenIf : Bool → List PackageTexts → ℕ → List ℕ → List Named → Type 0
IsGivenIf true tree a numbers given = AreFactsOf tree a numbers given
IsGivenIf false tree a numbers given = given ≡ []

-- What an analyzer reads of facts: those of these packages, where it has facts itself; else nothing.
abbrev pub IsGiven : List PackageTexts → ℕ → List ℕ → List Named → Type 0
IsGiven tree a numbers given = IsGivenIf (has_facts a) tree a numbers given
