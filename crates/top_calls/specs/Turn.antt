-- One turn of the session's loop.
use Rattle.std.specs.Prelude.{◌≡◌, ℕ, ◌+◌, ◌-◌, ◌*◌, ◌<◌, ◌≤◌, Bool, true, false, drop, List, [], ◌++◌, length, Option, None, Some, Result, Ok, Err}
use Rattle.std.specs.Io.KnownBytes.{Appends, Consumes, IsAtEnd}
use Rattle.gv_base.specs.Counts.{RoseBy}
use Rattle.gv_base.specs.Sources.{SourceView}
use Rattle.gv_base.specs.Sinks.{SinkView}
use Rattle.tree_runs.specs.Reports.{Work, Entries}
use Rattle.top_calls.specs.declared.options.ToolOptions.{ToolOptions}
use Rattle.scripts.specs.declared.halt.Halt.{Halt}
use Rattle.top_calls.specs.declared.stop.Cut.{Cut}
use Rattle.top_calls.specs.declared.stop.Stop.{Stop}
use Rattle.top_calls.specs.declared.stop.Stop.TheVariants.{Halted, Broken}
use Rattle.top_calls.specs.declared.session.Session.{Session}
use Rattle.top_calls.specs.declared.pieces.Taken.{Taken}
use Rattle.top_calls.specs.declared.pieces.Taken.TheVariants.{More, AtEnd, Over, Fault, Full}
use Rattle.scripts.specs.Reading.{limit, IsPrefix}
use Rattle.top_calls.specs.Ends.{may, Greeting, Telling, Storing, Lining}
use Rattle.top_calls.specs.Outcome.{Seen, Arrives, offset_of, said, Outcome}
use Rattle.top_calls.specs.Due.{IsLawfulKept, IsWorkOf}
use Rattle.top_calls.specs.Desk.{standing_of, IsHeld, HoldsText, HoldsEither}

-- The session stands where the commands among the bytes lead, and holds the others. The kits' counts have risen from these by what all runs did, and the keeper holds what it is to hold.
pub record Stands (options : ToolOptions) (kept : Option (List ℕ)) (loads runs : ℕ) (given out : List ℕ) (session : Session) (kits : Work) (held : Option (Option (List ℕ))) : Type 0 where
  pub arrives : Arrives options [] kept given
  pub rest : arrives.rest ≡ session.pending
  pub offset : session.offset ≡ offset_of arrives
  pub said_is : out ≡ said arrives
  pub now : arrives.now ≡ standing_of session.desk arrives.now.loads arrives.now.runs arrives.now.kept
  pub loads_are : IsLawfulKept kept → kits.loads ≡ loads + arrives.now.loads
  pub runs_are : IsLawfulKept kept → kits.runs ≡ runs + arrives.now.runs
  pub holds : IsHeld held arrives.now.kept

-- it has ended
pub record HasEnded (options : ToolOptions) (kept : Option (List ℕ)) (loads runs : ℕ) (given out : List ℕ) (left : Option (List ℕ)) (kits : Work) (held : Option (Option (List ℕ))) (stop : Stop) : Type 0 where
  pub seen : Seen
  pub outcome : Outcome options kept given left seen stop
  pub out_is : out ≡ seen.out
  pub work : IsLawfulKept kept → IsWorkOf stop loads runs seen kits
  pub holds : IsHeld held seen.kept

-- it stands on, or has ended
abbrev pub StandsOrEnds : ToolOptions → Option (List ℕ) → ℕ → ℕ → List ℕ → List ℕ → Session → Option (List ℕ) → Work → Option (Option (List ℕ)) → Option Stop → Type 0
StandsOrEnds options kept loads runs given out session left kits held None = Stands options kept loads runs given out session kits held
StandsOrEnds options kept loads runs given out session left kits held (Some stop) = HasEnded options kept loads runs given out left kits held stop

-- A turn takes bytes from the source, none past the limit but one, and gives bytes to the sink. Where it goes on, all that was given is answered or pending.
pub record Turns (options : ToolOptions) (source source' : SourceView) (sink sink' : SinkView) (kits kits' : Work) (held held' : Option (Option (List ℕ))) (old new : Session) (result : Option Stop) : Type 0 where
  pub given : List ℕ
  pub said : List ℕ
  pub takes : Consumes source.left source'.left given
  pub counts : RoseBy (length given) source.given source'.given
  pub within : old.offset + length old.pending + length given ≤ limit + 1
  pub moves : result ≡ None → new.offset + length new.pending ≡ old.offset + length old.pending + length given
  pub says : Appends sink.held sink'.held said
  pub goes : (kept : Option (List ℕ)) (loads runs : ℕ) (before out : List ℕ) → Stands options kept loads runs before out old kits held → StandsOrEnds options kept loads runs (before ++ given) (out ++ said) new source'.left kits' held' result

-- what a reading of one more piece leaves, by how it ended
abbrev pub Leaves : Session → Session → List ℕ → Type 0 → Taken → Type 0
Leaves old new given at_end More = (new.pending ≡ old.pending ++ given) × (0 < length given) × (new.desk ≡ old.desk) × (new.offset ≡ old.offset)
Leaves old new given at_end AtEnd = (given ≡ []) × at_end × (new.desk ≡ old.desk) × (new.pending ≡ old.pending) × (new.offset ≡ old.offset)
Leaves old new given at_end Over = (length given ≡ 1) × (old.offset + length old.pending ≡ limit) × (new.desk ≡ old.desk)
Leaves old new given at_end Fault = given ≡ []
Leaves old new given at_end Full = Unit {0}

-- one more piece was taken from the source, and however that ends, no byte past the limit but one
pub record TakesPiece (source source' : SourceView) (old new : Session) (result : Taken) : Type 0 where
  pub given : List ℕ
  pub takes : Consumes source.left source'.left given
  pub counts : RoseBy (length given) source.given source'.given
  pub within : old.offset + length old.pending + length given ≤ limit + 1
  pub leaves : Leaves old new given (IsAtEnd source'.left) result

-- how a text went out: whole, or a part of it and why no more
abbrev pub IsSaid : List ℕ → List ℕ → Result (Unit {0}) Cut → Type 0
IsSaid text said (Ok done) = said ≡ text
IsSaid text said (Err cut) = IsPrefix said text × (may cut Telling ≡ true) × (may cut Lining ≡ true) × (may cut Greeting ≡ true)

pub record Says (sink sink' : SinkView) (text : List ℕ) (result : Result (Unit {0}) Cut) : Type 0 where
  pub said : List ℕ
  pub says : Appends sink.held sink'.held said
  pub leaves : IsSaid text said result

-- what the keeper holds after a command: the text of the cache after a run, and else what it held
abbrev pub HoldsAfter : Bool → Entries → Option (Option (List ℕ)) → Option (Option (List ℕ)) → Type 0
HoldsAfter true cache old new = HoldsText cache new
HoldsAfter false cache old new = new ≡ old

-- A reply to the command of the first len pending bytes, and what is kept after it: it went out whole, and was kept after a run; or a part of it did; or it wasn't kept.
pub data Hands (len : ℕ) (reply said : List ℕ) (ran : Bool) (old new : Session) (held held' : Option (Option (List ℕ))) (result : Option Stop) : Type 0 where
  handed : result ≡ None → said ≡ reply → new.desk ≡ old.desk → new.pending ≡ drop len old.pending → new.offset ≡ old.offset + len → HoldsAfter ran old.desk.cache held held' → Hands len reply said ran old new held held' result
  untold : (cut : Cut) → result ≡ Some (Broken cut) → may cut Telling ≡ true → IsPrefix said reply → held' ≡ held → Hands len reply said ran old new held held' result
  unkept : (cut : Cut) → result ≡ Some (Broken cut) → may cut Storing ≡ true → said ≡ reply → ran ≡ true → HoldsEither old.desk.cache held held' → Hands len reply said ran old new held held' result

pub record HandsOut (sink sink' : SinkView) (len : ℕ) (reply : List ℕ) (ran : Bool) (old new : Session) (held held' : Option (Option (List ℕ))) (result : Option Stop) : Type 0 where
  pub said : List ℕ
  pub says : Appends sink.held sink'.held said
  pub hands : Hands len reply said ran old new held held' result

-- The line of a halt: it went out whole, or a part of it did, or none of it.
pub data LinesOut (line said : List ℕ) (halt : Halt) (found : Bool) (stop : Stop) : Type 0 where
  lined : stop ≡ Halted halt found → said ≡ line → LinesOut line said halt found stop
  unlined : (cut : Cut) → stop ≡ Broken cut → may cut Lining ≡ true → IsPrefix said line → LinesOut line said halt found stop

pub record SaysLast (sink sink' : SinkView) (line : List ℕ) (halt : Halt) (found : Bool) (stop : Stop) : Type 0 where
  pub said : List ℕ
  pub says : Appends sink.held sink'.held said
  pub lines : LinesOut line said halt found stop

-- the end of the input after the pending bytes
pub record Finishes (sink sink' : SinkView) (session : Session) (stop : Stop) : Type 0 where
  pub said : List ℕ
  pub says : Appends sink.held sink'.held said
  pub goes : (options : ToolOptions) (kits : Work) (held : Option (Option (List ℕ))) (kept : Option (List ℕ)) (loads runs : ℕ) (given out : List ℕ) (left : Option (List ℕ)) → Stands options kept loads runs given out session kits held → IsAtEnd left → HasEnded options kept loads runs given (out ++ said) left kits held stop

-- the beginning of a session: what was found at the keeper, and what went out first
abbrev pub BeginsOrEnds : ToolOptions → Option (List ℕ) → List ℕ → Option (List ℕ) → Work → Option (Option (List ℕ)) → Result Session Cut → Type 0
BeginsOrEnds options kept out left kits held (Ok session) = Stands options kept (kits.loads) (kits.runs) [] out session kits held
BeginsOrEnds options kept out left kits held (Err cut) = HasEnded options kept (kits.loads) (kits.runs) [] out left kits held (Broken cut)

pub record Begins (sink sink' : SinkView) (held held' : Option (Option (List ℕ))) (result : Result Session Cut) : Type 0 where
  pub said : List ℕ
  pub says : Appends sink.held sink'.held said
  pub kept : Option (List ℕ)
  pub held_is : IsHeld held kept
  pub goes : (options : ToolOptions) (left : Option (List ℕ)) (kits : Work) → BeginsOrEnds options kept said left kits held' result

-- a whole session, which takes no byte past the limit but one
pub record Runs (options : ToolOptions) (source source' : SourceView) (sink sink' : SinkView) (kits kits' : Work) (held held' : Option (Option (List ℕ))) (stop : Stop) : Type 0 where
  pub kept : Option (List ℕ)
  pub held_is : IsHeld held kept
  pub given : List ℕ
  pub out : List ℕ
  pub takes : Consumes source.left source'.left given
  pub counts : RoseBy (length given) source.given source'.given
  pub within : length given ≤ limit + 1
  pub says : Appends sink.held sink'.held out
  pub ended : HasEnded options kept (kits.loads) (kits.runs) given out source'.left kits' held' stop

-- bytes that may still come, twice, and bytes that are not yet answered
abbrev pub work_left : Session → ℕ
work_left session = 2 * (limit - (session.offset + length session.pending)) + length session.pending
