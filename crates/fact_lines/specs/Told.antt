-- What the text of an analyzer's facts tells of the functions of a package.
use Rattle.std.specs.Prelude.{ℕ, ◌==◌, List, [], ◌∷◌, ◌++◌, map, codes, Option, if◌then◌else◌}
use Rattle.std.specs.Option.{option_map_or}
use Rattle.fact_codec.specs.declared.units.Never.{Never}
use Rattle.fact_codec.specs.declared.wraps.Wraps.{Wraps}
use Rattle.fact_codec.specs.Kinds.{byte_at, wraps_at, wraps_text}
use Rattle.fact_codec.specs.Texts.{table_in}

-- the fact that a function never returns is spelled `n`
abbrev pub never_at : List ℕ → Option (Never × List ℕ)
never_at = byte_at 110 (record {})

-- of a function that never returns
abbrev pub never_line : List ℕ → List ℕ
never_line name = name ++ codes " never returns"

-- of a function that prints what it is given: the names of the ways in which it does
abbrev pub wraps_line : List ℕ → Wraps → List ℕ
wraps_line name wraps = name ++ (32 ∷ wraps_text wraps)

-- what ctrlflow's facts tell: nothing where the bytes spell none
abbrev pub never_told : List ℕ → List (List ℕ)
never_told text = option_map_or (map (λ e. never_line e.0)) (table_in never_at text) []

-- what printf's do
abbrev pub wraps_told : List ℕ → List (List ℕ)
wraps_told text = option_map_or (map (λ e. wraps_line e.0 e.1)) (table_in wraps_at text) []

-- What the facts of the analyzer of this number tell, a line a function, in the order of their text, which is that of the names. No other analyzer has facts.
abbrev pub facts_told : ℕ → List ℕ → List (List ℕ)
facts_told analyzer text = if analyzer == 4 then never_told text else (if analyzer == 6 then wraps_told text else [])
