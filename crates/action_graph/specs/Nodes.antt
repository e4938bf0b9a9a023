-- The input of a load or a run as the list of texts beside which its outcome is kept.
use Rattle.std.specs.Prelude.{◌≡◌, ℕ, List, [], ◌∷◌, ◌++◌}
use Rattle.action_graph.specs.declared.kit.LoadInput.{LoadInput}
use Rattle.action_graph.specs.declared.kit.RunInput.{RunInput}

-- a path, and what is named by it
abbrev pub Named : Type 0
Named = List ℕ × List ℕ

-- a path and a text, in turn
abbrev pub pairs : List Named → List (List ℕ)
pairs [] = []
pairs (p ∷ ps) = p.0 ∷ p.1 ∷ pairs ps

-- The package's path, each file's path and bytes, an empty text, and the path and the export text of each
-- package of the environment. No path is empty, so the files end where the empty text stands.
abbrev pub load_texts : LoadInput → List (List ℕ)
load_texts input = input.path ∷ (pairs input.files ++ [] ∷ pairs input.env)

-- That list, an empty text, and the path and the fact text of each package whose facts are read.
abbrev pub run_texts : RunInput → List (List ℕ)
run_texts input = input.load.path ∷ (pairs input.load.files ++ [] ∷ (pairs input.load.env ++ [] ∷ pairs input.facts))

-- each has a path
abbrev pub AreNamed : List Named → Type 0
AreNamed [] = Unit {0}
AreNamed (p ∷ ps) = (p.0 ≡ [] → ⊥) × AreNamed ps
