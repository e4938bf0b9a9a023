-- The facts that a table tells of packages.
use Rattle.std.specs.Prelude.{ℕ, ◌==◌, Bool, true, false, Option, Some, None, List, [], ◌∷◌, ◌++◌, map, slice_get, if◌then◌else◌}
use Rattle.action_graph.specs.Nodes.{Named}
use Rattle.action_graph.specs.Outcomes.{facts_of}
use Rattle.action_graph.specs.Work.{has_facts}
use Rattle.gv_driver.specs.declared.tree.PackageTexts.{PackageTexts}
use Rattle.gv_driver.specs.declared.node.Node.{Node}
use Rattle.gv_driver.specs.declared.node.RunNode.{RunNode}
use Rattle.gv_driver.specs.Rows.{merged, path_in}

-- what came of the analyzer's run; nothing where there is none
abbrev pub outcome_in : List RunNode → ℕ → List ℕ
outcome_in [] a = []
outcome_in (r ∷ more) a = if r.analyzer == a then r.outcome else outcome_in more a

-- the facts of a package, as far as they are known
abbrev pub facts_at : Option (Option Node) → ℕ → List ℕ
facts_at None a = facts_of []
facts_at (Some None) a = facts_of []
facts_at (Some (Some n)) a = facts_of (outcome_in n.runs a)

-- the path and the facts of a package
abbrev pub fact_pair_at : List PackageTexts → List (Option Node) → ℕ → ℕ → Named
fact_pair_at tree table a q = (path_in (slice_get tree q), facts_at (slice_get table q) a)

-- the facts that the analyzer's run over a package with this environment reads, as far as they are known
abbrev pub given_over : List PackageTexts → List (Option Node) → ℕ → List ℕ → List Named
given_over tree table a numbers = if has_facts a then map (fact_pair_at tree table a) numbers else []

-- for each analyzer
abbrev pub givens : List PackageTexts → List (Option Node) → List ℕ → ℕ → List Named
givens tree table numbers a = given_over tree table a numbers

-- for the runs over a package, as far as they are known
abbrev pub givens_from : List PackageTexts → List (Option Node) → PackageTexts → ℕ → List Named
givens_from tree table pack = givens tree table (merged table pack.imports)

abbrev pub fact_if : Bool → RunNode → List (ℕ × List ℕ)
fact_if true r = (r.analyzer, facts_of r.outcome) ∷ []
fact_if false r = []

-- the facts that these runs give, in turn, each with its analyzer
abbrev pub told_facts : List RunNode → List (ℕ × List ℕ)
told_facts [] = []
told_facts (r ∷ more) = fact_if (has_facts r.analyzer) r ++ told_facts more

abbrev pub runs_in_node : Option Node → List RunNode
runs_in_node None = []
runs_in_node (Some n) = n.runs

-- those of the runs of a package
abbrev pub told_at : Option Node → List (ℕ × List ℕ)
told_at o = told_facts (runs_in_node o)
