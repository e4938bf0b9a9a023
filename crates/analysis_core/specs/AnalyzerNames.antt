-- The analyzers' names and numbers.
use Rattle.std.specs.Prelude.{ℕ, ◌-◌, ◌==◌, Bool, List, [], ◌∷◌, codes, slice_index_or, Option, Some, None, if◌then◌else◌}
use Rattle.std.specs.Str.{bytes_eq}
use Rattle.analysis_core.specs.declared.analyzer_name.AnalyzerName.{AnalyzerName}
use Rattle.analysis_core.specs.declared.analyzer_name.AnalyzerName.TheVariants as analyzer

-- each analyzer with its name, in the order of the numbers
abbrev pub ANALYZERS : List (AnalyzerName × List ℕ)
ANALYZERS =
    (analyzer.Assign, codes "assign")
    ∷ (analyzer.Bools, codes "bools")
    ∷ (analyzer.CopyLocks, codes "copylocks")
    ∷ (analyzer.CtrlFlow, codes "ctrlflow")
    ∷ (analyzer.NilFunc, codes "nilfunc")
    ∷ (analyzer.Printf, codes "printf")
    ∷ (analyzer.StringIntConv, codes "stringintconv")
    ∷ (analyzer.StructTag, codes "structtag")
    ∷ (analyzer.Unreachable, codes "unreachable")
    ∷ (analyzer.UnusedResult, codes "unusedresult")
    ∷ []

-- an analyzer's number: its place among them, from 1
abbrev pub number_of : AnalyzerName → ℕ
number_of analyzer.Assign = 1
number_of analyzer.Bools = 2
number_of analyzer.CopyLocks = 3
number_of analyzer.CtrlFlow = 4
number_of analyzer.NilFunc = 5
number_of analyzer.Printf = 6
number_of analyzer.StringIntConv = 7
number_of analyzer.StructTag = 8
number_of analyzer.Unreachable = 9
number_of analyzer.UnusedResult = 10

-- the analyzer of the first row that passes a test
abbrev pub first_with : (AnalyzerName × List ℕ → Bool) → List (AnalyzerName × List ℕ) → Option AnalyzerName
first_with test [] = None
first_with test (row ∷ rows) = if test row then Some row.0 else first_with test rows

-- an analyzer's name
abbrev pub name_of : AnalyzerName → List ℕ
name_of a = (slice_index_or ANALYZERS (number_of a - 1) (a, [])).1

-- the analyzer of a number, if one has it
abbrev pub analyzer_numbered : ℕ → Option AnalyzerName
analyzer_numbered number = first_with (λ row. number_of row.0 == number) ANALYZERS

-- the analyzer of a name, if one has it
abbrev pub analyzer_named : List ℕ → Option AnalyzerName
analyzer_named name = first_with (λ row. bytes_eq row.1 name) ANALYZERS
