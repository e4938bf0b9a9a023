-- Which words ask for what. One command, for `gen` and `load` a number after it, and options anywhere.
use Rattle.std.specs.Prelude.{◌≡◌, ℕ, ◌≤◌, List, [], ◌∷◌, codes, Bool, true, false, Option, Some, None, map}
use Rattle.std.specs.Fmt.{decimal}
use Rattle.analysis_core.specs.declared.command.Command.TheVariants as run
use Rattle.analysis_core.specs.declared.analyzer_name.AnalyzerName.{AnalyzerName}
use Rattle.analysis_core.specs.AnalyzerNames.{name_of}
use Rattle.words.specs.declared.asked.Asked.{Asked}
use Rattle.words.specs.declared.asked.Asked.TheVariants as asked
use Rattle.words.specs.declared.asked.Words.{Words}
use Rattle.words.specs.declared.word.Valued.{Valued}
use Rattle.words.specs.declared.word.Valued.TheVariants as option
use Rattle.words.specs.Pieces.{dashed, kind_of, dashes, flag, named, given, plain}
use Rattle.words.specs.Lists.{pieces_of, set_of}

-- the texts of the options that are given
pub record Given : Type 0 where
  pub workers : Option (List ℕ)
  pub only : Option (List ℕ)
  pub json : Bool

abbrev pub nothing : Given
nothing = record { workers = None; only = None; json = false }

abbrev pub text_of : Valued → Given → Option (List ℕ)
text_of option.Workers g = g.workers
text_of option.Only g = g.only

abbrev pub with_text : Valued → List ℕ → Given → Given
with_text option.Workers text g = record g { workers = Some text }
with_text option.Only text g = record g { only = Some text }

-- words, the plain ones among them, and the options given, each at most once. A value follows as the next word or
-- after `=`, and doesn't begin with `-`; after `--` all words are plain.
pub data Takes : List (List ℕ) → List (List ℕ) → Given → Type 0 where
  no_words : Takes [] [] nothing
  dashes_then : (w : List ℕ) (ws : List (List ℕ)) → kind_of w ≡ dashes → Takes (w ∷ ws) ws nothing
  plain_word : (w : List ℕ) (ws ps : List (List ℕ)) (g : Given) → kind_of w ≡ plain → Takes ws ps g → Takes (w ∷ ws) (w ∷ ps) g
  json_flag : (w : List ℕ) (ws ps : List (List ℕ)) (g : Given) → kind_of w ≡ flag → g.json ≡ false → Takes ws ps g → Takes (w ∷ ws) ps (record g { json = true })
  value_next : (o : Valued) (w v : List ℕ) (ws ps : List (List ℕ)) (g : Given) → kind_of w ≡ named o → dashed v ≡ false → text_of o g ≡ None → Takes ws ps g → Takes (w ∷ v ∷ ws) ps (with_text o v g)
  value_within : (o : Valued) (w v : List ℕ) (ws ps : List (List ℕ)) (g : Given) → kind_of w ≡ given o v → dashed v ≡ false → text_of o g ≡ None → Takes ws ps g → Takes (w ∷ ws) ps (with_text o v g)

-- the commands
pub data IsCommand : List (List ℕ) → Asked → Type 0 where
  session : IsCommand (codes "session" ∷ []) asked.Session
  check : IsCommand (codes "check" ∷ []) (asked.Run run.Check)
  report : IsCommand (codes "report" ∷ []) (asked.Run run.Report)
  facts : IsCommand (codes "facts" ∷ []) (asked.Run run.Facts)
  fix : IsCommand (codes "fix" ∷ []) (asked.Run run.Fix)
  gen : (n : ℕ) → 1 ≤ n → n ≤ 1000 → IsCommand (codes "gen" ∷ decimal n ∷ []) (asked.Gen n)
  load : (n : ℕ) → 1 ≤ n → n ≤ 1000 → IsCommand (codes "load" ∷ decimal n ∷ []) (asked.Load n)

-- how many workers
abbrev pub IsWorkers : Option (List ℕ) → ℕ → Type 0
IsWorkers None n = n ≡ 1
IsWorkers (Some text) n = (text ≡ decimal n) × (1 ≤ n) × (n ≤ 64)

-- names with commas between them
pub record IsNamed (text : List ℕ) (set : ℕ) : Type 0 where
  pub analyzers : List AnalyzerName
  pub names : map name_of analyzers ≡ pieces_of text
  pub are : set ≡ set_of analyzers

-- which analyzers: all ten, or those that are named
abbrev pub IsOnly : Option (List ℕ) → ℕ → Type 0
IsOnly None set = set ≡ 2046
IsOnly (Some text) set = IsNamed text set

-- the words ask for this
pub record Asks (words : List (List ℕ)) (call : Words) : Type 0 where
  pub plains : List (List ℕ)
  pub options : Given
  pub takes : Takes words plains options
  pub command : IsCommand plains call.asked
  pub workers : IsWorkers options.workers call.workers
  pub only : IsOnly options.only call.only
  pub json : call.json ≡ options.json
