-- What a session has done when it ends, by the keeper's bytes at the call and the bytes that it was given.
use Rattle.std.specs.Prelude.{◌≡◌, ◌⊎◌, ℕ, ◌+◌, ◌^◌, ◌<◌, ◌≤◌, List, [], ◌∷◌, ◌++◌, length, Bool, true, false, Option, None, Some}
use Rattle.tree_runs.specs.Reports.{Tree, Entries, HasCircle, IsHonest, CacheSpelled}
use Rattle.top_calls.specs.declared.options.ToolOptions.{ToolOptions}
use Rattle.scripts.specs.declared.halt.Halt.{Halt}
use Rattle.top_calls.specs.declared.stop.Cut.{Cut}
use Rattle.top_calls.specs.declared.stop.Cut.TheVariants as cause
use Rattle.top_calls.specs.declared.stop.Stop.{Stop}
use Rattle.top_calls.specs.declared.stop.Stop.TheVariants.{Halted, Broken}
use Rattle.scripts.specs.Script.{Command, IsBeginning}
use Rattle.scripts.specs.Reading.{Read, Begun, IsHalt, IsPrefix, spell}
use Rattle.top_calls.specs.Standing.{Standing, start_at}
use Rattle.top_calls.specs.Deeds.{Does, Leads, IsRun, deed_of}
use Rattle.top_calls.specs.Ends.{Moment, Fetching, Greeting, Reading, Idle, Running, Writing, Telling, Storing, Lining, may, line_of, ignored_line}

-- what is seen of a call from outside: what went out, what the keeper holds, whether the last run found something, and how many loads and runs the kits did
pub record Seen : Type 0 where
  pub out : List ℕ
  pub kept : Option (List ℕ)
  pub found : Bool
  pub loads : ℕ
  pub runs : ℕ

abbrev pub seen_at : Standing → List ℕ → Seen
seen_at now out = record { out = out; kept = now.kept; found = now.found; loads = now.loads; runs = now.runs }

-- The cache with which a call begins over what the keeper holds, and the line that goes out first. No keeper gives more bytes than memory holds.
pub data Opens (kept : Option (List ℕ)) (cache : Entries) (greeting : List ℕ) : Type 0 where
  empty : kept ≡ None → cache ≡ [] → greeting ≡ [] → Opens kept cache greeting
  spelled : (bytes : List ℕ) → kept ≡ Some bytes → length bytes < 2 ^ 64 → CacheSpelled cache bytes → greeting ≡ [] → Opens kept cache greeting
  ignored : (bytes : List ℕ) → kept ≡ Some bytes → ((other : Entries) → CacheSpelled other bytes → ⊥) → cache ≡ [] → greeting ≡ ignored_line → Opens kept cache greeting

-- where the commands at the front of the bytes lead
pub record Arrives (options : ToolOptions) (tree : Tree) (kept : Option (List ℕ)) (bytes : List ℕ) : Type 0 where
  pub cache : Entries
  pub greeting : List ℕ
  pub opens : Opens kept cache greeting
  pub commands : List Command
  pub rest : List ℕ
  pub read : Read bytes commands rest
  pub now : Standing
  pub replies : List ℕ
  pub leads : Leads options commands (start_at tree cache kept) now replies

abbrev pub offset_of : {options : ToolOptions} {tree : Tree} {kept : Option (List ℕ)} {bytes : List ℕ} → Arrives options tree kept bytes → ℕ
offset_of a = length (spell a.commands)

abbrev pub said : {options : ToolOptions} {tree : Tree} {kept : Option (List ℕ)} {bytes : List ℕ} → Arrives options tree kept bytes → List ℕ
said a = a.greeting ++ a.replies

-- the next command, and what it does
pub record NextStep (options : ToolOptions) (now : Standing) (offset : ℕ) (rest : List ℕ) : Type 0 where
  pub begun : Begun offset rest
  pub next : Standing
  pub reply : List ℕ
  pub does : Does options begun.command now next reply

-- the rest from the offset on begins with a run, and the rules of a package of the tree go in a circle
pub record IsCircular (now : Standing) (offset : ℕ) (rest : List ℕ) : Type 0 where
  pub begun : Begun offset rest
  pub run : IsRun (deed_of begun.command.word begun.command.fields)
  pub circle : HasCircle now.tree

-- What stands there where this cause cuts a session short: behind the last whole command the beginning of one; a run over a tree in which rules go in a circle. Of the other causes the
-- devices' counts tell.
abbrev pub IsCauseAt : Cut → Standing → ℕ → List ℕ → Type 0
IsCauseAt cause.Source now offset rest = IsBeginning rest
IsCauseAt cause.Circle now offset rest = IsHonest now.cache → IsCircular now offset rest
IsCauseAt cause.Tree now offset rest = Unit {0}
IsCauseAt cause.Keeper now offset rest = Unit {0}
IsCauseAt cause.Sink now offset rest = Unit {0}
IsCauseAt cause.Memory now offset rest = Unit {0}
IsCauseAt cause.Stalled now offset rest = Unit {0}

-- the keeper holds the old or the new
abbrev pub IsEither : Option (List ℕ) → Standing → Standing → Type 0
IsEither kept old new = (kept ≡ old.kept) ⊎ (kept ≡ new.kept)

-- What is seen of a session that is cut short at a moment after it arrived there: a case a moment.
abbrev pub CutAt : Moment → ToolOptions → Standing → ℕ → List ℕ → List ℕ → Option (List ℕ) → Seen → Type 0
CutAt Fetching options now offset rest said left seen = ⊥
CutAt Greeting options now offset rest said left seen = ⊥
CutAt Reading options now offset rest said left seen = ⊥
CutAt Writing options now offset rest said left seen = ⊥
CutAt Idle options now offset rest said left seen = seen ≡ seen_at now said
CutAt Running options now offset rest said left seen =
    (begun : Begun offset rest) × (seen.out ≡ said) × (seen.kept ≡ now.kept) ×
    (IsHonest now.cache → (next : Standing) (reply : List ℕ) → Does options begun.command now next reply → seen.loads ≤ next.loads) ×
    (IsHonest now.cache → (next : Standing) (reply : List ℕ) → Does options begun.command now next reply → seen.runs ≤ next.runs)
CutAt Telling options now offset rest said left seen =
    (step : NextStep options now offset rest) × (part : List ℕ) × IsPrefix part step.reply × (seen ≡ record { out = said ++ part; kept = now.kept; found = step.next.found; loads = step.next.loads; runs = step.next.runs })
CutAt Storing options now offset rest said left seen =
    (step : NextStep options now offset rest) × (kept : Option (List ℕ)) × IsEither kept now step.next × (seen ≡ record { out = said ++ step.reply; kept = kept; found = step.next.found; loads = step.next.loads; runs = step.next.runs })
CutAt Lining options now offset rest said left seen =
    (halt : Halt) × (part : List ℕ) × IsHalt halt offset rest left × IsPrefix part (line_of halt offset) × (seen ≡ seen_at now (said ++ part))

-- How a session ends that found these bytes at the keeper and was given those, with these left.
pub data Outcome (options : ToolOptions) (kept : Option (List ℕ)) (given : List ℕ) (left : Option (List ℕ)) (seen : Seen) (stop : Stop) : Type 0 where
  unopened : (cut : Cut) → stop ≡ Broken cut → may cut Fetching ≡ true → given ≡ [] → seen ≡ record { out = []; kept = kept; found = false; loads = 0; runs = 0 } → Outcome options kept given left seen stop
  greeted : (cut : Cut) → stop ≡ Broken cut → may cut Greeting ≡ true → given ≡ [] → (cache : Entries) (greeting part : List ℕ) → Opens kept cache greeting → IsPrefix part greeting → seen ≡ record { out = part; kept = kept; found = false; loads = 0; runs = 0 } → Outcome options kept given left seen stop
  halted : (halt : Halt) → stop ≡ Halted halt seen.found → (a : Arrives options [] kept given) → IsHalt halt (offset_of a) a.rest left → seen ≡ seen_at a.now (said a ++ line_of halt (offset_of a)) → Outcome options kept given left seen stop
  broken : (cut : Cut) → stop ≡ Broken cut → (a : Arrives options [] kept given) (moment : Moment) → may cut moment ≡ true → IsCauseAt cut a.now (offset_of a) a.rest → CutAt moment options a.now (offset_of a) a.rest (said a) left seen → Outcome options kept given left seen stop
