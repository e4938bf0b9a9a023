-- Diagnostics at nodes.
use Rattle.std.specs.Prelude.{ℕ, List, [], ◌∷◌, Option, slice_get}
use Rattle.std.specs.Option.{option_map_or}
use Rattle.fix_apply.specs.declared.edits.Fix.{Fix}
use Rattle.go_tree.specs.declared.token.Token.{Token}
use Rattle.go_tree.specs.declared.tree.Node.{Node}
use Rattle.unit_read.specs.Units.{Unit, nodes_at, token_at}
use Rattle.analysis_core.specs.declared.analyzer_name.AnalyzerName.{AnalyzerName}
use Rattle.analysis_core.specs.declared.diagnostic.Diagnostic.{Diagnostic}
use Rattle.analysis_core.specs.AnalyzerNames.{number_of}

-- where a token begins, and where it ends
abbrev pub start_of : Unit → ℕ → ℕ → ℕ
start_of u f i = option_map_or (λ (token : Token). token.start) (token_at u f i) 0

abbrev pub end_of : Unit → ℕ → ℕ → ℕ
end_of u f i = option_map_or (λ (token : Token). token.«end») (token_at u f i) 0

-- A diagnostic of a node: at its first token, up to the end of its last.
abbrev pub diagnosed : Unit → ℕ → AnalyzerName → List ℕ → Option Fix → Node → Diagnostic
diagnosed u f analyzer text fix node = record {
  place = record { file = f; offset = start_of u f node.first };
  «end» = end_of u f node.last;
  analyzer = number_of analyzer;
  text = text;
  fix = fix;
}

-- that of the node of a number, if it is there
abbrev pub diagnosed_at : Unit → ℕ → ℕ → AnalyzerName → List ℕ → Option Fix → List Diagnostic
diagnosed_at u f n analyzer text fix = option_map_or (λ (node : Node). diagnosed u f analyzer text fix node ∷ []) (slice_get (nodes_at u f) n) []
