-- How a session begins, and how its turns make one course.
use Rattle.std.proofs.Common.{◌≡◌, ℕ, ◌+◌, List, [], ◌∷◌, ◌++◌, length, refl, sym, ◌∙◌, arith, true, false, Option, Some, None, append_assoc, subst}
use Rattle.std.proofs.lemmas.List.{append-nil, length-append}
use Rattle.std.specs.Prelude.{Ok, Err}
use Rattle.gv_base.specs.Counts.{RoseBy}
use Rattle.gv_base.specs.Sources.{SourceView}
use Rattle.gv_base.specs.Sinks.{SinkView}
use Rattle.gv_base.proofs.Known.{Appends-none, Appends-trans, Consumes-none, Consumes-trans}
use Rattle.tree_runs.specs.Reports.{Work, Entries}
use Rattle.top_calls.specs.declared.options.ToolOptions.{ToolOptions}
use Rattle.top_calls.specs.declared.session.Session.{Session}
use Rattle.top_calls.specs.declared.stop.Cut.{Cut}
use Rattle.top_calls.specs.declared.stop.Stop.{Stop}
use Rattle.top_calls.specs.declared.stop.Stop.TheVariants.{Broken}
use Rattle.scripts.specs.Reading.{IsPrefix}
use Rattle.top_calls.specs.Standing.{start_at}
use Rattle.top_calls.specs.Ends.{may, Fetching, Greeting}
use Rattle.top_calls.specs.Outcome.{Seen, Opens, unopened, greeted}
use Rattle.top_calls.specs.Due.{IsWorkOf}
use Rattle.top_calls.specs.Desk.{standing_of, IsHeld}
use Rattle.top_calls.specs.Turn.{Stands, HasEnded, StandsOrEnds, Turns, Runs, Begins}
use Rattle.top_calls.proofs.Steps.{begins-at, within-limit}

-- nothing was executed
pub nothing-done : (stop : Stop) (kits : Work) (seen : Seen) → seen.loads ≡ 0 → seen.runs ≡ 0 → IsWorkOf stop kits.loads kits.runs seen kits
nothing-done stop kits seen l r = record { loads_most = omega arith; runs_most = omega arith; loads_all = λ e. omega arith; runs_all = λ e. omega arith }

-- what a keeper that tells holds
abbrev pub told : Option (Option (List ℕ)) → Option (List ℕ)
told None = None
told (Some kept) = kept

pub IsHeld-told : (held : Option (Option (List ℕ))) → IsHeld held (told held)
IsHeld-told None = tt
IsHeld-told (Some kept) = refl

pub HasEnded-unopened : (o : ToolOptions) (kept : Option (List ℕ)) (left : Option (List ℕ)) (kits : Work) (held : Option (Option (List ℕ))) (cut : Cut) → may cut Fetching ≡ true → IsHeld held kept → HasEnded o kept (kits.loads) (kits.runs) [] [] left kits held (Broken cut)
HasEnded-unopened o kept left kits held cut allowed h = record {
  seen = record { out = []; kept = kept; found = false; loads = 0; runs = 0 };
  outcome = unopened cut refl allowed refl refl;
  out_is = refl;
  work = λ l. nothing-done (Broken cut) kits _ refl refl;
  holds = h;
}

pub HasEnded-greeted : (o : ToolOptions) (kept : Option (List ℕ)) (left : Option (List ℕ)) (kits : Work) (held : Option (Option (List ℕ))) (cut : Cut) (cache : Entries) (greeting part : List ℕ) → may cut Greeting ≡ true → Opens kept cache greeting → IsPrefix part greeting → IsHeld held kept → HasEnded o kept (kits.loads) (kits.runs) [] part left kits held (Broken cut)
HasEnded-greeted o kept left kits held cut cache greeting part allowed opens pre h = record {
  seen = record { out = part; kept = kept; found = false; loads = 0; runs = 0 };
  outcome = greeted cut refl allowed refl cache greeting part opens pre refl;
  out_is = refl;
  work = λ l. nothing-done (Broken cut) kits _ refl refl;
  holds = h;
}

pub Stands-begun : (o : ToolOptions) (kept : Option (List ℕ)) (out : List ℕ) (session : Session) (kits : Work) (held : Option (Option (List ℕ))) (cache : Entries) (greeting : List ℕ) → Opens kept cache greeting → out ≡ greeting → standing_of session.desk 0 0 kept ≡ start_at [] cache kept → session.pending ≡ [] → session.offset ≡ 0 → IsHeld held kept → Stands o kept (kits.loads) (kits.runs) [] out session kits held
Stands-begun o kept out session kits held cache greeting opens e n p q h =
    begins-at o kept out session kits held (record { cache = cache; greeting = greeting; opens = opens; commands = []; rest = []; read = record { parts = refl; steps = tt; within = omega arith }; now = start_at [] cache kept; replies = []; leads = (refl, refl) }) refl refl (e ∙ sym (append-nil greeting)) (sym n) refl refl p q h

RoseBy-trans : (a b c m n : ℕ) → RoseBy m a b → RoseBy n b c → RoseBy (m + n) a c
RoseBy-trans a b c m n h k = omega arith

RoseBy-length : (a b c : ℕ) (xs ys : List ℕ) → RoseBy (length xs) a b → RoseBy (length ys) b c → RoseBy (length (xs ++ ys)) a c
RoseBy-length a b c xs ys h k = rw length-append (RoseBy-trans a b c (length xs) (length ys) h k)

pub Turns-none : (o : ToolOptions) (a : SourceView) (x : SinkView) (kits : Work) (held : Option (Option (List ℕ))) (session : Session) → Turns o a a x x kits kits held held session session None
Turns-none o a x kits held session = record {
  given = [];
  said = [];
  takes = Consumes-none a.left;
  counts = omega arith;
  within = let w = within-limit session in omega arith;
  moves = λ e. omega arith;
  says = Appends-none x.held;
  goes = λ kept loads runs before out s. rw (append-nil before, append-nil out) s;
}

pub Turns-trans : {o : ToolOptions} {a b c : SourceView} {x y z : SinkView} {k l m : Work} {h i j : Option (Option (List ℕ))} {s t u : Session} {r : Option Stop} → Turns o a b x y k l h i s t None → Turns o b c y z l m i j t u r → Turns o a c x z k m h j s u r
Turns-trans {o} {a} {b} {c} {x} {y} {z} {k} {l} {m} {h} {i} {j} {s} {t} {u} {r} p q = record {
  given = p.given ++ q.given;
  said = p.said ++ q.said;
  takes = Consumes-trans a.left b.left c.left p.given q.given p.takes q.takes;
  counts = RoseBy-length a.given b.given c.given p.given q.given p.counts q.counts;
  within = let m = p.moves refl in let w = q.within in let l = length-append p.given q.given in omega arith;
  moves = λ e. (let m = p.moves refl in let n = q.moves e in let l = length-append p.given q.given in omega arith);
  says = Appends-trans x.held y.held z.held p.said q.said p.says q.says;
  goes = λ kept loads runs before out st.
      subst (λ v. StandsOrEnds o kept loads runs v (out ++ (p.said ++ q.said)) u c.left m j r) (append_assoc before p.given q.given)
      (subst (λ v. StandsOrEnds o kept loads runs ((before ++ p.given) ++ q.given) v u c.left m j r) (append_assoc out p.said q.said)
      (q.goes kept loads runs (before ++ p.given) (out ++ p.said) (p.goes kept loads runs before out st)));
}

pub Runs-cut : (o : ToolOptions) (a : SourceView) (x y : SinkView) (kits : Work) (h i : Option (Option (List ℕ))) (cut : Cut) → Begins x y h i (Err cut) → Runs o a a x y kits kits h i (Broken cut)
Runs-cut o a x y kits h i cut b = record {
  kept = b.kept;
  held_is = b.held_is;
  given = [];
  out = b.said;
  takes = Consumes-none a.left;
  counts = omega arith;
  within = omega arith;
  says = b.says;
  ended = b.goes o a.left kits;
}

pub Runs-whole : (o : ToolOptions) (a b : SourceView) (x y z : SinkView) (k l : Work) (h i j : Option (Option (List ℕ))) (s t : Session) (stop : Stop) → s.offset + length s.pending ≡ 0 → Begins x y h i (Ok s) → Turns o a b y z k l i j s t (Some stop) → Runs o a b x z k l h j stop
Runs-whole o a b x y z k l h i j s t stop n p q = record {
  kept = p.kept;
  held_is = p.held_is;
  given = q.given;
  out = p.said ++ q.said;
  takes = q.takes;
  counts = q.counts;
  within = let w = q.within in omega arith;
  says = Appends-trans x.held y.held z.held p.said q.said p.says q.says;
  ended = q.goes p.kept (k.loads) (k.runs) [] p.said (p.goes o a.left k);
}
