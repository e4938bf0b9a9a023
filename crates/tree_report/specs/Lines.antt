-- The error lines of a run: why a package isn't accepted.
use Rattle.std.specs.Prelude.{ℕ, suc, Bool, true, false, cond, Option, Some, None, List, [], ◌∷◌, ◌++◌, map, flat_map, get_or, slice_index_or, codes, nat_eq, option_and_then, if◌then◌else◌}
use Rattle.std.specs.Option.{option_map_or}
use Rattle.gv_base.specs.declared.place.Place.{Place}
use Rattle.go_tree.specs.declared.token.Why.{Why}
use Rattle.go_tree.specs.declared.token.Why.TheVariants.{NotUtf8, Nul, StrayMark, BadLexeme, Unclosed}
use Rattle.go_tree.specs.declared.head.Head.{Head}
use Rattle.go_tree.specs.declared.head.ImportLine.{ImportLine}
use Rattle.parse_file.specs.declared.verdict.FileVerdict.{FileVerdict}
use Rattle.parse_file.specs.declared.verdict.FileVerdict.TheVariants as file
use Rattle.import_graph.specs.Packages.{head_at, lines_in, missing_at, paths_of}
use Rattle.import_graph.specs.declared.pack.PackState.{PackState}
use Rattle.import_graph.specs.declared.pack.PackState.TheVariants.{Broken, NameClash, MissingImport, ImportCycle, Sound}
use Rattle.import_graph.specs.declared.pack.Package.{Package}
use Rattle.typed_tree.specs.RuleTexts.{rule_texts, limit_text}
use Rattle.typed_tree.specs.declared.rule.Limit.{Limit}
use Rattle.typed_tree.specs.declared.rule.Limit.TheVariants as limits
use Rattle.gv_driver.specs.MarkLine.{MarkLine}
use Rattle.gv_driver.specs.declared.reply.Verdict.{Verdict}
use Rattle.gv_driver.specs.declared.reply.Verdict.TheVariants.{Faulty, Blocked, Refused, Accepted}
use Rattle.analysis_core.specs.declared.reply.ErrorLine.{ErrorLine}

-- a line of a package at a place
abbrev pub line_at : List ℕ → Place → List ℕ → ErrorLine
line_at path at text = record { «package» = path; place = Some at; text = text }

-- a line of a package as a whole
abbrev pub line_without : List ℕ → List ℕ → ErrorLine
line_without path text = record { «package» = path; place = None; text = text }

-- why the scanner refuses a text
abbrev pub why_text : Why → List ℕ
why_text NotUtf8 = codes "lexical: not utf-8"
why_text Nul = codes "lexical: nul"
why_text StrayMark = codes "lexical: stray mark"
why_text BadLexeme = codes "lexical: bad lexeme"
why_text Unclosed = codes "lexical: unclosed"

-- the line of a file that is refused, by its number
abbrev pub refusal_lines : List ℕ → ℕ → FileVerdict → List ErrorLine
refusal_lines path n (file.Parsed tree) = []
refusal_lines path n (file.Lexical offset why) = line_at path (record { file = n; offset = offset }) (why_text why) ∷ []
refusal_lines path n (file.Syntax offset) = line_at path (record { file = n; offset = offset }) (codes "syntax error") ∷ []
refusal_lines path n (file.TooDeep offset) = line_at path (record { file = n; offset = offset }) (codes "nesting too deep") ∷ []

abbrev pub read_lines : List ℕ → ℕ → Option FileVerdict → List ErrorLine
read_lines path n None = []
read_lines path n (Some verdict) = refusal_lines path n verdict

-- what of a verdict is told in lines: why the file is refused
abbrev pub refusal_in : FileVerdict → Option FileVerdict
refusal_in (file.Parsed tree) = None
refusal_in (file.Lexical offset why) = Some (file.Lexical offset why)
refusal_in (file.Syntax offset) = Some (file.Syntax offset)
refusal_in (file.TooDeep offset) = Some (file.TooDeep offset)

abbrev pub refusal_of : Option FileVerdict → Option FileVerdict
refusal_of verdict = option_and_then refusal_in verdict

-- those of a broken package
abbrev pub broken_lines : List (Option FileVerdict) → List ℕ → List ℕ → List ErrorLine
broken_lines verdicts path files = flat_map (λ n. read_lines path n (get_or verdicts n None)) files

-- the package names that differ from that of the first file
abbrev pub clash_line : List ℕ → Place → ErrorLine
clash_line path at = line_at path at (codes "package name differs")

-- the imports whose path is no package's
abbrev pub missing_line : List ℕ → ImportLine → Place → ErrorLine
missing_line path line at = line_at path at (codes "missing import \"" ++ (line.path ++ codes "\""))

abbrev pub missing_lines_at : List (List ℕ) → List ℕ → ℕ → ImportLine → List ErrorLine
missing_lines_at paths path n line = map (missing_line path line) (missing_at paths n line)

abbrev pub missing_lines : List (Option Head) → List (List ℕ) → List ℕ → List ℕ → List ErrorLine
missing_lines heads paths path files = flat_map (λ n. flat_map (missing_lines_at paths path n) (lines_in (head_at heads n))) files

abbrev pub is_accepted : Verdict → Bool
is_accepted Faulty = false
is_accepted Blocked = false
is_accepted (Refused marks) = false
is_accepted Accepted = true

-- an import that isn't accepted blocks the package
abbrev pub blocked_line : List Package → List ℕ → ℕ → ErrorLine
blocked_line packages path q = line_without path (codes "blocked by " ++ get_or (paths_of packages) q [])

abbrev pub blocked_lines_at : List Package → List Verdict → List ℕ → ℕ → List ErrorLine
blocked_lines_at packages outcomes path q = cond (is_accepted (get_or outcomes q Faulty)) [] (blocked_line packages path q ∷ [])

abbrev pub blocked_lines : List Package → List Verdict → List ℕ → List ℕ → List ErrorLine
blocked_lines packages outcomes path imports = flat_map (blocked_lines_at packages outcomes path) imports

-- the limit of a number, if one has it
abbrev pub limit_of : ℕ → Option Limit
limit_of number =
    if nat_eq number 0 then Some limits.Float
    else (if nat_eq number 1 then Some limits.Complex
    else (if nat_eq number 2 then Some limits.Wide
    else (if nat_eq number 3 then Some limits.LongText
    else (if nat_eq number 4 then Some limits.WideType
    else (if nat_eq number 5 then Some limits.Unsafe
    else (if nat_eq number 6 then Some limits.Cgo
    else (if nat_eq number 7 then Some limits.DotImport
    else (if nat_eq number 8 then Some limits.BuildConstraint
    else None))))))))

-- The text of the rule or of the limit that has the number, which is empty where none has it.
abbrev pub mark_text : Bool → ℕ → List ℕ
mark_text true number = option_map_or limit_text (limit_of number) []
mark_text false number = slice_index_or rule_texts number []

-- a mark's file counts the files of its package
abbrev pub mark_line : List ℕ → List ℕ → MarkLine → ErrorLine
mark_line path files m = line_at path (record { file = get_or files m.at.file 0; offset = m.at.offset }) (mark_text m.limit m.number)

-- the lines of a sound package, by what came of it
abbrev pub outcome_lines : List Package → List Verdict → Package → Verdict → List ErrorLine
outcome_lines packages outcomes p Faulty = []
outcome_lines packages outcomes p Blocked = blocked_lines packages outcomes p.path p.imports
outcome_lines packages outcomes p (Refused marks) = map (mark_line p.path p.files) marks
outcome_lines packages outcomes p Accepted = []

-- the lines of a package, by its state
abbrev pub state_lines : List (Option Head) → List (Option FileVerdict) → List Package → List Verdict → Package → Verdict → PackState → List ErrorLine
state_lines heads verdicts packages outcomes p outcome Broken = broken_lines verdicts p.path p.files
state_lines heads verdicts packages outcomes p outcome (NameClash places) = map (clash_line p.path) places
state_lines heads verdicts packages outcomes p outcome (MissingImport places) = missing_lines heads (paths_of packages) p.path p.files
state_lines heads verdicts packages outcomes p outcome ImportCycle = line_without p.path (codes "import cycle") ∷ []
state_lines heads verdicts packages outcomes p outcome Sound = outcome_lines packages outcomes p outcome

-- Those of packages from number k on, in turn.
abbrev pub lines_from : List (Option Head) → List (Option FileVerdict) → List Package → List Verdict → ℕ → List Package → List ErrorLine
lines_from heads verdicts packages outcomes k [] = []
lines_from heads verdicts packages outcomes k (p ∷ ps) =
    state_lines heads verdicts packages outcomes p (get_or outcomes k Faulty) p.state ++ lines_from heads verdicts packages outcomes (suc k) ps

-- the error lines of a tree: those of each package
abbrev pub error_lines : List (Option Head) → List (Option FileVerdict) → List Package → List Verdict → List ErrorLine
error_lines heads verdicts packages outcomes = lines_from heads verdicts packages outcomes 0 packages
