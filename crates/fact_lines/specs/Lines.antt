-- The facts of packages, as the lines of a reply.
use Rattle.std.specs.Prelude.{ℕ, List, [], ◌∷◌, ◌++◌, flat_map, map}
use Rattle.analysis_core.specs.declared.reply.FactLine.{FactLine}
use Rattle.import_graph.specs.declared.pack.Package.{Package}
use Rattle.fact_lines.specs.Told.{facts_told}

-- a line of the package of this path
abbrev pub fact_line : List ℕ → ℕ → List ℕ → FactLine
fact_line path analyzer told = record { «package» = path; analyzer = analyzer; text = told }

-- what the facts of an analyzer tell of a package
abbrev pub analyzer_lines : List ℕ → ℕ × List ℕ → List FactLine
analyzer_lines path facts = map (fact_line path facts.0) (facts_told facts.0 facts.1)

-- what those of each do
abbrev pub package_lines : List ℕ → List (ℕ × List ℕ) → List FactLine
package_lines path facts = flat_map (analyzer_lines path) facts

-- The facts of all packages, one package after the other: of each the fact texts of its analyzers.
abbrev pub all_facts : List Package → List (List (ℕ × List ℕ)) → List FactLine
all_facts [] facts = []
all_facts (p ∷ ps) [] = []
all_facts (p ∷ ps) (f ∷ facts) = package_lines p.path f ++ all_facts ps facts
