-- The outcome text of a run: what was found and the facts, each as a text.
use Rattle.std.specs.Prelude.{ℕ, List, [], ◌++◌, Option, Some, None}
use Rattle.gv_bytes.specs.Spelling.{text}
use Rattle.gv_bytes.specs.Reading.{text_at}
use Rattle.action_graph.specs.declared.kit.RunOutcome.{RunOutcome}

abbrev pub outcome_text : List ℕ → List ℕ → List ℕ
outcome_text findings facts = text findings ++ text facts

-- the outcome text of what a run answers
abbrev pub run_text : RunOutcome → List ℕ
run_text o = outcome_text o.findings o.facts

-- the text in front and the bytes after it, or two empty ones where none begins the bytes
abbrev pub parts_or : Option (List ℕ × List ℕ) → List ℕ × List ℕ
parts_or None = ([], [])
parts_or (Some parts) = parts

-- the findings text in an outcome text
unfoldable pub findings_of : List ℕ → List ℕ
findings_of outcome = (parts_or (text_at outcome)).0

-- the fact text in an outcome text
unfoldable pub facts_of : List ℕ → List ℕ
facts_of outcome = (parts_or (text_at (parts_or (text_at outcome)).1)).0
