-- The steps of a session, as laws on lists.
use Rattle.std.proofs.Common.{◌≡◌, ◌≢◌, inl, inr, ℕ, ◌+◌, ◌-◌, ◌<◌, ◌≤◌, List, [], ◌∷◌, ◌++◌, length, take, drop, refl, sym, ap, ◌∙◌, arith, Bool, true, false, Option, Some, append_assoc, subst}
use Rattle.std.specs.Prelude.{if◌then◌else◌}
use Rattle.std.proofs.lemmas.List.{append-nil, length-append, take_all}
use Rattle.std.specs.Io.KnownBytes.{IsAtEnd}
use Rattle.tree_runs.specs.Reports.{Work, Entries, HasCircle, HasText, IsHonest, CacheSpelled}
use Rattle.scripts.specs.declared.script.Command.{Command as Decoded}
use Rattle.scripts.specs.declared.script.Next.TheVariants.{Whole}
use Rattle.scripts.specs.declared.word.Word.TheVariants.{End}
use Rattle.scripts.specs.declared.halt.Halt.{Halt}
use Rattle.scripts.specs.Script.{ending, spelling, IsBeginning, NoCommand}
use Rattle.scripts.specs.Next.{IsNext, command_of, fields_of}
use Rattle.scripts.specs.Reading.{limit, spell, Begun, IsRefused, no_command, cut_short, IsEnding, by_command, IsPastLimit, IsHalt}
use Rattle.scripts.proofs.ReadLaws.{Read-next, spell-length}
use Rattle.scripts.proofs.ReadOnLaws.{ending-only}
use Rattle.top_calls.specs.declared.options.ToolOptions.{ToolOptions}
use Rattle.top_calls.specs.declared.session.Session.{Session}
use Rattle.top_calls.specs.declared.desk.Desk.{Desk}
use Rattle.top_calls.specs.declared.desk.Answer.{Answer}
use Rattle.top_calls.specs.declared.stop.Cut.{Cut}
use Rattle.top_calls.specs.declared.stop.Stop.{Stop}
use Rattle.top_calls.specs.declared.stop.Stop.TheVariants.{Halted, Broken}
use Rattle.top_calls.specs.Standing.{Standing, start_at}
use Rattle.top_calls.specs.Deeds.{Does, Acts, deed_of}
use Rattle.top_calls.specs.Ends.{is_exact, may, line_of, Idle, Running, Telling, Storing, Lining}
use Rattle.top_calls.specs.Outcome.{Seen, seen_at, Arrives, offset_of, said, IsCauseAt, IsCircular, NextStep, halted, broken}
use Rattle.top_calls.specs.Due.{IsLawfulKept, IsWorkOf}
use Rattle.top_calls.specs.Desk.{standing_of, more_loads, more_runs, IsStuckRun, Serves, Tries, IsHeld}
use Rattle.top_calls.specs.Turn.{Stands, HasEnded, StandsOrEnds, HoldsAfter, Hands, handed, untold, unkept, LinesOut, lined, unlined}
use Rattle.top_calls.proofs.RunsLaws.{RunLaws}
use Rattle.top_calls.proofs.CourseLaws.{Leads-next}
use Rattle.top_calls.proofs.OutLaws.{Arrives-more, arrives-honest}
use Rattle.top_calls.proofs.KeepLaws.{cause-elsewhere, false-true}

-- all that is pending is within the limit
pub within-limit : (session : Session) → session.offset + length session.pending ≤ limit
within-limit session = session.within

-- what was executed is exactly what is seen, or no more
pub exactly : (stop : Stop) (loads runs : ℕ) (seen : Seen) (now : Work) → now.loads ≡ loads + seen.loads → now.runs ≡ runs + seen.runs → IsWorkOf stop loads runs seen now
exactly stop loads runs seen now l r = record { loads_most = omega arith; runs_most = omega arith; loads_all = λ e. l; runs_all = λ e. r }

pub at-most : (stop : Stop) (loads runs : ℕ) (seen : Seen) (now : Work) → is_exact stop ≡ false → now.loads ≤ loads + seen.loads → now.runs ≤ runs + seen.runs → IsWorkOf stop loads runs seen now
at-most stop loads runs seen now f l r = record { loads_most = l; runs_most = r; loads_all = λ e. false-true (sym f ∙ e); runs_all = λ e. false-true (sym f ∙ e) }

-- the pending bytes begin with a command that is answered
abbrev pub begun-of : {o : ToolOptions} {kept : Option (List ℕ)} {loads runs : ℕ} {given out : List ℕ} {kits : Work} {held : Option (Option (List ℕ))} (session : Session) (s : Stands o kept loads runs given out session kits held) (decoded : Decoded) (len : ℕ) → IsNext session.pending (Whole decoded len) → decoded.word ≢ End → Begun (offset_of s.arrives) s.arrives.rest
begun-of session s decoded len next goes =
    let w = within-limit session in
    let l : length session.pending ≡ length (spelling (command_of decoded)) + length (drop len session.pending) = ap length next.0.spelled ∙ length-append (spelling (command_of decoded)) (drop len session.pending) in
    let e = s.offset in
    record { command = command_of decoded; more = drop len session.pending; step = record { lawful = next.0.lawful; goes = goes }; spelled = s.rest ∙ next.0.spelled; within = omega arith }

-- it ends where it stands, for a cause that comes between commands
pub ends-idle : {o : ToolOptions} {kept : Option (List ℕ)} {loads runs : ℕ} {given out : List ℕ} {kits : Work} {held : Option (Option (List ℕ))} (session : Session) (left : Option (List ℕ)) (more : List ℕ) (cut : Cut) (s : Stands o kept loads runs given out session kits held) → may cut Idle ≡ true
    → IsCauseAt cut s.arrives.now (offset_of s.arrives) (s.arrives.rest ++ more) → HasEnded o kept loads runs (given ++ more) (out ++ []) left kits held (Broken cut)
ends-idle {kept = kept} {loads = loads} {runs = runs} {out = out} {kits = kits} session left more cut s allowed cause = record {
  seen = seen_at s.arrives.now (said s.arrives);
  outcome = broken cut refl (Arrives-more more s.arrives) Idle allowed cause refl;
  out_is = append-nil out ∙ s.said_is;
  work = λ l. exactly (Broken cut) loads runs (seen_at s.arrives.now (said s.arrives)) kits (s.loads_are l) (s.runs_are l);
  holds = s.holds;
}

-- what is pending and is the beginning of a command stands behind the last whole one
pub begins-behind : {o : ToolOptions} {kept : Option (List ℕ)} {loads runs : ℕ} {given out : List ℕ} {kits : Work} {held : Option (Option (List ℕ))} (session : Session) (more : List ℕ) (s : Stands o kept loads runs given out session kits held) → IsBeginning session.pending → more ≡ []
    → IsBeginning (s.arrives.rest ++ more)
begins-behind session more s begun none = subst IsBeginning (sym (append-nil session.pending) ∙ (ap (λ z. session.pending ++ z) (sym none) ∙ ap (λ z. z ++ more) (sym s.rest))) begun

-- it halts where it stands
pub ends-halted : {o : ToolOptions} {kept : Option (List ℕ)} {loads runs : ℕ} {given out : List ℕ} {kits : Work} {held : Option (Option (List ℕ))} (session : Session) (left : Option (List ℕ)) (more new : List ℕ) (halt : Halt) (stop : Stop) → Stands o kept loads runs given out session kits held → IsHalt halt session.offset (session.pending ++ more) left → LinesOut (line_of halt session.offset) new halt session.desk.found stop → HasEnded o kept loads runs (given ++ more) (out ++ new) left kits held stop
ends-halted {o} {kept} {loads} {runs} {given} {out} {kits} {held} session left more new halt stop s h lines = go lines
  where
    a : Arrives o [] kept (given ++ more)
    a = Arrives-more more s.arrives

    here : IsHalt halt (offset_of s.arrives) (s.arrives.rest ++ more) left
    here = subst (λ z. IsHalt halt (offset_of s.arrives) (z ++ more) left) (sym s.rest) (subst (λ z. IsHalt halt z (session.pending ++ more) left) s.offset h)

    line : line_of halt session.offset ≡ line_of halt (offset_of s.arrives)
    line = ap (line_of halt) s.offset

    found : session.desk.found ≡ s.arrives.now.found
    found = sym (ap (λ (z : Standing). z.found) s.now)

    go : LinesOut (line_of halt session.offset) new halt session.desk.found stop → HasEnded o kept loads runs (given ++ more) (out ++ new) left kits held stop
    go (lined e w) = record {
      seen = seen_at s.arrives.now (said s.arrives ++ line_of halt (offset_of s.arrives));
      outcome = halted halt (e ∙ ap (Halted halt) found) a here refl;
      out_is = ap (λ z. z ++ new) s.said_is ∙ ap (λ z. said s.arrives ++ z) (w ∙ line);
      work = λ l. exactly stop loads runs (seen_at s.arrives.now (said s.arrives ++ line_of halt (offset_of s.arrives))) kits (s.loads_are l) (s.runs_are l);
      holds = s.holds;
    }
    go (unlined cut e allowed p) = record {
      seen = seen_at s.arrives.now (said s.arrives ++ new);
      outcome = broken cut e a Lining allowed (cause-elsewhere cut Lining refl refl allowed s.arrives.now (offset_of s.arrives) (s.arrives.rest ++ more)) (halt, new, here, (p.0, p.1 ∙ line), refl);
      out_is = ap (λ z. z ++ new) s.said_is;
      work = λ l. exactly stop loads runs (seen_at s.arrives.now (said s.arrives ++ new)) kits (s.loads_are l) (s.runs_are l);
      holds = s.holds;
    }

-- the next command wasn't done whole
pub ends-running : {o : ToolOptions} {kept : Option (List ℕ)} {loads runs : ℕ} {given out : List ℕ} {kits : Work} {held : Option (Option (List ℕ))} (session : Session) (left : Option (List ℕ)) (kits' : Work) (decoded : Decoded) (len : ℕ) (cut : Cut) (s : Stands o kept loads runs given out session kits held)
    → IsNext session.pending (Whole decoded len) → decoded.word ≢ End → may cut Running ≡ true → is_exact (Broken cut) ≡ false → IsCauseAt cut s.arrives.now (offset_of s.arrives) s.arrives.rest → Tries o (deed_of decoded.word (fields_of decoded.fields)) session.desk kits kits'
    → HasEnded o kept loads runs given (out ++ []) left kits' held (Broken cut)
ends-running {o} {kept} {loads} {runs} {given} {out} {kits} {held} session left kits' decoded len cut s next goes allowed exact cause t =
    let n = s.arrives.now in
    let seen : Seen = record { out = said s.arrives; kept = n.kept; found = false; loads = n.loads + more_loads kits kits'; runs = n.runs + more_runs kits kits' } in
    let honest : IsHonest n.cache → IsHonest session.desk.cache = λ h. subst IsHonest (ap (λ (z : Standing). z.cache) s.now) h in
    let does : (m : Standing) (r : List ℕ) → Does o (command_of decoded) n m r → Acts o (deed_of decoded.word (fields_of decoded.fields)) (standing_of session.desk n.loads n.runs n.kept) m r = λ m r d. subst (λ z. Acts o (deed_of decoded.word (fields_of decoded.fields)) z m r) s.now d in
    record {
      seen = seen;
      outcome = broken cut refl s.arrives Running allowed cause (begun-of session s decoded len next goes, refl, refl, (λ h m r d. t.loads (honest h) n.loads n.runs n.kept m r (does m r d)), (λ h m r d. t.runs (honest h) n.loads n.runs n.kept m r (does m r d)));
      out_is = append-nil out ∙ s.said_is;
      work = λ l. (let x = s.loads_are l in let y = s.runs_are l in at-most (Broken cut) loads runs seen kits' exact (omega arith) (omega arith));
      holds = s.holds;
    }

-- where the rules of a package of the desk's tree go in a circle
pub circular-at : {o : ToolOptions} {kept : Option (List ℕ)} {loads runs : ℕ} {given out : List ℕ} {kits : Work} {held : Option (Option (List ℕ))} (session : Session) (decoded : Decoded) (len : ℕ) (s : Stands o kept loads runs given out session kits held) → IsNext session.pending (Whole decoded len) → decoded.word ≢ End
    → (IsHonest session.desk.cache → IsStuckRun (deed_of decoded.word (fields_of decoded.fields)) session.desk.files) → IsHonest s.arrives.now.cache → IsCircular s.arrives.now (offset_of s.arrives) s.arrives.rest
circular-at session decoded len s next goes stuck h =
    let t = stuck (subst IsHonest (ap (λ (z : Standing). z.cache) s.now) h) in
    record { begun = begun-of session s decoded len next goes; run = t.0; circle = subst HasCircle (sym (ap (λ (z : Standing). z.tree) s.now)) t.1 }

-- the next command, done
next-of : {o : ToolOptions} {kept : Option (List ℕ)} {loads runs : ℕ} {given out : List ℕ} {kits : Work} {held : Option (Option (List ℕ))} (session : Session) (mid : Desk) (kits' : Work) (decoded : Decoded) (answer : Answer) (s : Stands o kept loads runs given out session kits held)
    → Serves o (deed_of decoded.word (fields_of decoded.fields)) session.desk mid kits kits' answer → (text : List ℕ) → (answer.ran ≡ true → CacheSpelled mid.cache text)
    → Does o (command_of decoded) s.arrives.now (standing_of mid (s.arrives.now.loads + more_loads kits kits') (s.arrives.now.runs + more_runs kits kits') (if answer.ran then Some text else s.arrives.now.kept)) answer.reply
next-of {o} {kits = kits} session mid kits' decoded answer s v text t =
    let n = s.arrives.now in
    subst (λ z. Acts o (deed_of decoded.word (fields_of decoded.fields)) z (standing_of mid (n.loads + more_loads kits kits') (n.runs + more_runs kits kits') (if answer.ran then Some text else n.kept)) answer.reply) (sym s.now) (v.does n.loads n.runs n.kept text t)

-- a text of the cache, where one is to be kept
record TextOf (ran : Bool) (cache : Entries) : Type 0 where
  text : List ℕ
  spelled : ran ≡ true → CacheSpelled cache text

text-of : (ran : Bool) (cache : Entries) → (ran ≡ true → HasText cache) → TextOf ran cache
text-of true cache h = record { text = (h refl).text; spelled = λ e. (h refl).spelled }
text-of false cache h = record { text = []; spelled = λ e. false-true e }

-- a command was answered and what is to be kept is kept, or it ended before that
pub steps-on : RunLaws → {o : ToolOptions} {kept : Option (List ℕ)} {loads runs : ℕ} {given out : List ℕ} {kits : Work} {held : Option (Option (List ℕ))} (session mid new : Session) (left : Option (List ℕ)) (kits' : Work) (held' : Option (Option (List ℕ))) (decoded : Decoded) (len : ℕ) (answer : Answer) (said' : List ℕ) (result : Option Stop) → Stands o kept loads runs given out session kits held → IsNext session.pending (Whole decoded len) → decoded.word ≢ End → Serves o (deed_of decoded.word (fields_of decoded.fields)) session.desk mid.desk kits kits' answer → mid.pending ≡ session.pending → mid.offset ≡ session.offset → Hands len answer.reply said' answer.ran mid new held held' result → StandsOrEnds o kept loads runs given (out ++ said') new left kits' held' result
steps-on law {o} {kept} {loads} {runs} {given} {out} {kits} {held} session mid new left kits' held' decoded len answer said' result s next goes v p q hands = go hands
  where
    n : Standing
    n = s.arrives.now

    to : Option (List ℕ) → Standing
    to k = standing_of mid.desk (n.loads + more_loads kits kits') (n.runs + more_runs kits kits') k

    b : Begun (offset_of s.arrives) s.arrives.rest
    b = begun-of session s decoded len next goes

    any : TextOf answer.ran mid.desk.cache
    any = text-of answer.ran mid.desk.cache v.text

    does : (text : List ℕ) → (answer.ran ≡ true → CacheSpelled mid.desk.cache text) → Does o (command_of decoded) n (to (if answer.ran then Some text else n.kept)) answer.reply
    does text t = next-of session mid.desk kits' decoded answer s v text t

    does-ran : (text : List ℕ) → CacheSpelled mid.desk.cache text → answer.ran ≡ true → Does o (command_of decoded) n (to (Some text)) answer.reply
    does-ran text t e = let d = does text (λ z. t) in rw e at d

    step : (text : List ℕ) → (answer.ran ≡ true → CacheSpelled mid.desk.cache text) → NextStep o n (offset_of s.arrives) s.arrives.rest
    step text t = record { begun = b; next = to (if answer.ran then Some text else n.kept); reply = answer.reply; does = does text t }

    -- over a lawful keeper the desk's cache is honest, so that the counts didn't fall
    honest : IsLawfulKept kept → IsHonest session.desk.cache
    honest l = subst IsHonest (ap (λ (z : Standing). z.cache) s.now) (arrives-honest law o [] kept given l s.arrives)

    loads' : IsLawfulKept kept → kits'.loads ≡ loads + (n.loads + more_loads kits kits')
    loads' l = let e = s.loads_are l in let x = v.loads (honest l) in omega arith

    runs' : IsLawfulKept kept → kits'.runs ≡ runs + (n.runs + more_runs kits kits')
    runs' l = let e = s.runs_are l in let x = v.runs (honest l) in omega arith

    worked : (stop : Stop) (seen : Seen) → seen.loads ≡ n.loads + more_loads kits kits' → seen.runs ≡ n.runs + more_runs kits kits' → IsLawfulKept kept → IsWorkOf stop loads runs seen kits'
    worked stop seen a b l = exactly stop loads runs seen kits' (loads' l ∙ ap (λ z. loads + z) (sym a)) (runs' l ∙ ap (λ z. runs + z) (sym b))

    stand : (k : Option (List ℕ)) → Does o (command_of decoded) n (to k) answer.reply → IsHeld held' k → said' ≡ answer.reply → new.desk ≡ mid.desk → new.pending ≡ drop len mid.pending → new.offset ≡ mid.offset + len → Stands o kept loads runs given (out ++ said') new kits' held'
    stand k d h r e f g = record {
      arrives = record { cache = s.arrives.cache; greeting = s.arrives.greeting; opens = s.arrives.opens; commands = s.arrives.commands ++ command_of decoded ∷ []; rest = drop len session.pending; read = Read-next s.arrives.read b; now = to k; replies = s.arrives.replies ++ answer.reply; leads = Leads-next o s.arrives.commands (command_of decoded) (start_at [] s.arrives.cache kept) n (to k) s.arrives.replies answer.reply s.arrives.leads d };
      rest = sym (f ∙ ap (drop len) p);
      offset = g ∙ ap (λ z. z + len) (q ∙ s.offset) ∙ ap (λ z. offset_of s.arrives + z) next.1 ∙ sym (spell-length s.arrives.commands (command_of decoded));
      said_is = ap (λ z. z ++ said') s.said_is ∙ append_assoc s.arrives.greeting s.arrives.replies said' ∙ ap (λ z. s.arrives.greeting ++ (s.arrives.replies ++ z)) r;
      now = ap (λ z. standing_of z (n.loads + more_loads kits kits') (n.runs + more_runs kits kits') k) (sym e);
      loads_are = loads';
      runs_are = runs';
      holds = h;
    }

    done : (ran : Bool) → answer.ran ≡ ran → HoldsAfter ran mid.desk.cache held held' → said' ≡ answer.reply → new.desk ≡ mid.desk → new.pending ≡ drop len mid.pending → new.offset ≡ mid.offset + len → Stands o kept loads runs given (out ++ said') new kits' held'
    done true e h r d f g = stand (Some h.text) (does-ran h.text h.spelled e) h.holds r d f g
    done false e h r d f g = stand n.kept (subst (λ (z : Bool). Does o (command_of decoded) n (to (if z then Some any.text else n.kept)) answer.reply) e (does any.text any.spelled)) (subst (λ z. IsHeld z n.kept) (sym h) s.holds) r d f g

    go : Hands len answer.reply said' answer.ran mid new held held' result → StandsOrEnds o kept loads runs given (out ++ said') new left kits' held' result
    go (handed z r d f g h) = subst (λ y. StandsOrEnds o kept loads runs given (out ++ said') new left kits' held' y) (sym z) (done answer.ran refl h r d f g)
    go (untold cut z allowed pre h) = subst (λ y. StandsOrEnds o kept loads runs given (out ++ said') new left kits' held' y) (sym z) (record {
      seen = record { out = said s.arrives ++ said'; kept = n.kept; found = mid.desk.found; loads = n.loads + more_loads kits kits'; runs = n.runs + more_runs kits kits' };
      outcome = broken cut refl s.arrives Telling allowed (cause-elsewhere cut Telling refl refl allowed n (offset_of s.arrives) s.arrives.rest) (step any.text any.spelled, said', pre, refl);
      out_is = ap (λ y. y ++ said') s.said_is;
      work = worked (Broken cut) _ refl refl;
      holds = subst (λ y. IsHeld y n.kept) (sym h) s.holds;
    })
    go (unkept cut z allowed r ran either) = subst (λ y. StandsOrEnds o kept loads runs given (out ++ said') new left kits' held' y) (sym z) (elim either [
      | inl h ↦ record {
        seen = record { out = said s.arrives ++ answer.reply; kept = n.kept; found = mid.desk.found; loads = n.loads + more_loads kits kits'; runs = n.runs + more_runs kits kits' };
        outcome = broken cut refl s.arrives Storing allowed (cause-elsewhere cut Storing refl refl allowed n (offset_of s.arrives) s.arrives.rest) (step any.text any.spelled, n.kept, inl refl, refl);
        out_is = ap (λ y. y ++ said') s.said_is ∙ ap (λ y. said s.arrives ++ y) r;
        work = worked (Broken cut) _ refl refl;
        holds = subst (λ y. IsHeld y n.kept) (sym h) s.holds;
      }
      | inr h ↦ record {
        seen = record { out = said s.arrives ++ answer.reply; kept = Some h.text; found = mid.desk.found; loads = n.loads + more_loads kits kits'; runs = n.runs + more_runs kits kits' };
        outcome = broken cut refl s.arrives Storing allowed (cause-elsewhere cut Storing refl refl allowed n (offset_of s.arrives) s.arrives.rest) ((let x : NextStep o n (offset_of s.arrives) s.arrives.rest = record { begun = b; next = to (Some h.text); reply = answer.reply; does = does-ran h.text h.spelled ran } in x), Some h.text, inr refl, refl);
        out_is = ap (λ y. y ++ said') s.said_is ∙ ap (λ y. said s.arrives ++ y) r;
        work = worked (Broken cut) _ refl refl;
        holds = h.holds;
      }
    ])

-- a piece came
pub takes-on : {o : ToolOptions} {kept : Option (List ℕ)} {loads runs : ℕ} {given out : List ℕ} {kits : Work} {held : Option (Option (List ℕ))} (old new : Session) (more : List ℕ) → Stands o kept loads runs given out old kits held → new.pending ≡ old.pending ++ more → new.desk ≡ old.desk → new.offset ≡ old.offset → Stands o kept loads runs (given ++ more) (out ++ []) new kits held
takes-on {out = out} old new more s p d o = record {
  arrives = Arrives-more more s.arrives;
  rest = ap (λ z. z ++ more) s.rest ∙ sym p;
  offset = o ∙ s.offset;
  said_is = append-nil out ∙ s.said_is;
  now = s.now ∙ ap (λ z. standing_of z s.arrives.now.loads s.arrives.now.runs s.arrives.now.kept) (sym d);
  loads_are = s.loads_are;
  runs_are = s.runs_are;
  holds = s.holds;
}

-- nothing changed
pub same-on : {o : ToolOptions} {kept : Option (List ℕ)} {loads runs : ℕ} {given out : List ℕ} {kits : Work} {held : Option (Option (List ℕ))} (old new : Session) → Stands o kept loads runs given out old kits held → new.pending ≡ old.pending → new.desk ≡ old.desk → new.offset ≡ old.offset → Stands o kept loads runs given out new kits held
same-on old new s p d o = record {
  arrives = s.arrives;
  rest = s.rest ∙ sym p;
  offset = o ∙ s.offset;
  said_is = s.said_is;
  now = s.now ∙ ap (λ z. standing_of z s.arrives.now.loads s.arrives.now.runs s.arrives.now.kept) (sym d);
  loads_are = s.loads_are;
  runs_are = s.runs_are;
  holds = s.holds;
}

-- the bytes begin with the end
pub IsEnding-of : (session : Session) (decoded : Decoded) (len : ℕ) (left : Option (List ℕ)) → IsNext session.pending (Whole decoded len) → decoded.word ≡ End → IsEnding session.offset session.pending left
IsEnding-of session decoded len left next e =
    let w = within-limit session in
    let c : command_of decoded ≡ ending = ending-only (command_of decoded) next.0.lawful e in
    let t : session.pending ≡ spelling ending ++ drop len session.pending = next.0.spelled ∙ ap (λ d. spelling d ++ drop len session.pending) c in
    let l : length session.pending ≡ length (spelling ending) + length (drop len session.pending) = ap length t ∙ length-append (spelling ending) (drop len session.pending) in
    by_command (drop len session.pending) t (omega arith)

-- no command comes
pub IsRefused-none : (session : Session) (left : Option (List ℕ)) → NoCommand session.pending → IsRefused session.offset session.pending left
IsRefused-none session left h = let w = within-limit session in no_command (let e : take (limit - session.offset) session.pending ≡ session.pending = take_all (limit - session.offset) session.pending (omega arith) in rw e h)

-- the input ends within a command
pub IsRefused-cut : (session : Session) (left : Option (List ℕ)) → IsBeginning session.pending → 0 < length session.pending → IsAtEnd left → IsRefused session.offset session.pending left
IsRefused-cut session left b some e = cut_short b some (within-limit session) e

-- more came past the limit
pub IsPastLimit-of : (session : Session) (more : List ℕ) → IsBeginning session.pending → session.offset + length session.pending ≡ limit → 0 < length more → IsPastLimit session.offset (session.pending ++ more)
IsPastLimit-of session more b full some = record { first = session.pending; more = more; parts = refl; beginning = b; full = full; surplus = some }

-- a session begins
pub begins-at : (o : ToolOptions) (kept : Option (List ℕ)) (out : List ℕ) (session : Session) (kits : Work) (held : Option (Option (List ℕ))) (a : Arrives o [] kept []) → a.commands ≡ [] → a.rest ≡ [] → out ≡ said a → a.now ≡ standing_of session.desk a.now.loads a.now.runs a.now.kept → a.now.loads ≡ 0 → a.now.runs ≡ 0 → session.pending ≡ [] → session.offset ≡ 0 → IsHeld held a.now.kept → Stands o kept (kits.loads) (kits.runs) [] out session kits held
begins-at o kept out session kits held a c r e n l m p q h = record {
  arrives = a;
  rest = r ∙ sym p;
  offset = q ∙ sym (ap (λ z. length (spell z)) c);
  said_is = e;
  now = n;
  loads_are = λ x. omega arith;
  runs_are = λ x. omega arith;
  holds = h;
}
