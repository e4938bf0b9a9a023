-- The reading of words, one after the other.
use Rattle.std.specs.Prelude.{ℕ, List, [], ◌∷◌, codes, true, false, bytes_eq, Option, Some, None, is_some, option_map, option_and_then, unwrap_or, if◌then◌else◌}
use Rattle.analysis_core.specs.declared.command.Command.TheVariants as run
use Rattle.words.specs.declared.asked.Asked.TheVariants as asked
use Rattle.words.specs.declared.asked.Words.{Words}
use Rattle.words.specs.declared.word.Valued.{Valued}
use Rattle.words.specs.declared.word.Valued.TheVariants as option
use Rattle.words.specs.declared.draft.Expects.{Expects}
use Rattle.words.specs.declared.draft.Expects.TheVariants as expects
use Rattle.words.specs.declared.draft.Counted.{Counted}
use Rattle.words.specs.declared.draft.Counted.TheVariants as command
use Rattle.words.specs.declared.draft.Position.{Position}
use Rattle.words.specs.declared.draft.Position.TheVariants as position
use Rattle.words.specs.declared.draft.Draft.{Draft}
use Rattle.words.specs.Pieces.{WordKind, dashes, flag, named, given, plain, wrong, dashed, kind_of}
use Rattle.words.specs.Numbers.{numeral}
use Rattle.words.specs.Lists.{set_named}

abbrev pub first_position : List ℕ → Option Position
first_position word =
    if bytes_eq word (codes "session") then Some (position.Done asked.Session)
    else (if bytes_eq word (codes "check") then Some (position.Done (asked.Run run.Check))
    else (if bytes_eq word (codes "report") then Some (position.Done (asked.Run run.Report))
    else (if bytes_eq word (codes "facts") then Some (position.Done (asked.Run run.Facts))
    else (if bytes_eq word (codes "fix") then Some (position.Done (asked.Run run.Fix))
    else (if bytes_eq word (codes "gen") then Some (position.Counting command.Gen)
    else (if bytes_eq word (codes "load") then Some (position.Counting command.Load)
    else None))))))

abbrev pub done_with : Counted → ℕ → Position
done_with command.Gen n = position.Done (asked.Gen n)
done_with command.Load n = position.Done (asked.Load n)

abbrev pub next_position : Position → List ℕ → Option Position
next_position position.Start word = first_position word
next_position (position.Counting c) word = option_map (done_with c) (numeral 1000 word)
next_position (position.Done a) word = None

abbrev pub placed : List ℕ → Draft → Option Draft
placed word d = option_map (λ p. record d { position = p }) (next_position d.position word)

abbrev pub with_workers : List ℕ → Draft → Option Draft
with_workers value d = if is_some d.workers then None else option_map (λ n. record d { expects = expects.Any; workers = Some n }) (numeral 64 value)

abbrev pub with_only : List ℕ → Draft → Option Draft
with_only value d = if is_some d.only then None else option_map (λ set. record d { expects = expects.Any; only = Some set }) (set_named value)

abbrev pub set_at : Valued → List ℕ → Draft → Option Draft
set_at option.Workers value d = with_workers value d
set_at option.Only value d = with_only value d

abbrev pub set_value : Valued → List ℕ → Draft → Option Draft
set_value o value d = if dashed value then None else set_at o value d

abbrev pub with_json : Draft → Option Draft
with_json d = if d.json then None else Some (record d { json = true })

abbrev pub any_kind : WordKind → List ℕ → Draft → Option Draft
any_kind dashes word d = Some (record d { expects = expects.Plain })
any_kind flag word d = with_json d
any_kind (named o) word d = Some (record d { expects = expects.Value o })
any_kind (given o value) word d = set_value o value d
any_kind plain word d = placed word d
any_kind wrong word d = None

abbrev pub any_word : List ℕ → Draft → Option Draft
any_word word d = any_kind (kind_of word) word d

abbrev pub step_at : Expects → List ℕ → Draft → Option Draft
step_at expects.Any word d = any_word word d
step_at (expects.Value o) word d = set_value o word d
step_at expects.Plain word d = placed word d

abbrev pub step : Draft → List ℕ → Option Draft
step d word = step_at d.expects word d

abbrev pub whole_at : Position → Draft → Option Words
whole_at position.Start d = None
whole_at (position.Counting c) d = None
whole_at (position.Done a) d = Some (record { asked = a; workers = unwrap_or d.workers 1; only = unwrap_or d.only 2046; json = d.json })

abbrev pub whole : Draft → Option Words
whole d = whole_at d.position d

abbrev pub finish_at : Expects → Draft → Option Words
finish_at expects.Any d = whole d
finish_at (expects.Value o) d = None
finish_at expects.Plain d = whole d

abbrev pub finish : Draft → Option Words
finish d = finish_at d.expects d

-- all words, one after the other
abbrev pub read : Draft → List (List ℕ) → Option Draft
read d [] = Some d
read d (w ∷ ws) = option_and_then (λ e. read e ws) (step d w)

abbrev pub start : Draft
start = record { expects = expects.Any; position = position.Start; workers = None; only = None; json = false }

abbrev pub reading : List (List ℕ) → Option Words
reading words = option_and_then finish (read start words)
