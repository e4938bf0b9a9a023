-- Lists of names in words.
use Rattle.std.specs.Prelude.{ℕ, ◌^◌, ◌==◌, List, [], ◌∷◌, Bool, bit_or, Option, Some, if◌then◌else◌, option_map, option_and_then}
use Rattle.std.specs.List.{fold}
use Rattle.analysis_core.specs.declared.analyzer_name.AnalyzerName.{AnalyzerName}
use Rattle.analysis_core.specs.AnalyzerNames.{number_of, analyzer_named}

abbrev pub is_comma : ℕ → Bool
is_comma b = b == 44

-- a byte in front of the first of some pieces
abbrev pub onto_first : ℕ → List (List ℕ) → List (List ℕ)
onto_first b [] = (b ∷ []) ∷ []
onto_first b (piece ∷ pieces) = (b ∷ piece) ∷ pieces

-- what stands between the commas of a text
abbrev pub pieces_of : List ℕ → List (List ℕ)
pieces_of [] = [] ∷ []
pieces_of (b ∷ bs) = if is_comma b then [] ∷ pieces_of bs else onto_first b (pieces_of bs)

-- a set of analyzers with one more
abbrev pub set_with : ℕ → AnalyzerName → ℕ
set_with set analyzer = bit_or set (2 ^ number_of analyzer)

-- the set of these, each once however often it is named
abbrev pub set_of : List AnalyzerName → ℕ
set_of analyzers = fold set_with 0 analyzers

-- a set and the analyzer of a name, if it is one's
abbrev pub with_piece : ℕ → List ℕ → Option ℕ
with_piece set name = option_map (set_with set) (analyzer_named name)

-- a set and the analyzers of these names, if each is one's
abbrev pub with_names : ℕ → List (List ℕ) → Option ℕ
with_names set [] = Some set
with_names set (name ∷ names) = option_and_then (λ more. with_names more names) (with_piece set name)

-- the set that a list of names with commas between them chooses
abbrev pub set_named : List ℕ → Option ℕ
set_named text = with_names 0 (pieces_of text)
