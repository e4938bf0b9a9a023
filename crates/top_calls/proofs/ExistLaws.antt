-- Where each tree in which no package is stuck has a report, each script that meets no other tree has a due output.
use Rattle.std.proofs.Common.{◌≢◌, ℕ, ◌+◌, List, [], ◌∷◌, ◌++◌, length, refl, ap, Option, Some, arith}
use Rattle.std.specs.List.{AllByRecursion}
use Rattle.gv_base.specs.Files.{AreInOrder, Entry, del_file, put_file}
use Rattle.gv_base.proofs.FileLemmas.{put_file-in_order, del_file-in_order}
use Rattle.analysis_core.specs.declared.command.Command.{Command as Kind}
use Rattle.analysis_core.specs.Replies.{stats_text}
use Rattle.analysis_core.specs.declared.reply.ChangedFile.{ChangedFile}
use Rattle.folder.specs.Folders.{put_all}
use Rattle.scripts.specs.declared.word.Word.{Word}
use Rattle.scripts.specs.declared.word.Word.TheVariants.{Put, Del, Show, Check, Report, Facts, Fix, Stats, End}
use Rattle.scripts.specs.Words.{shape_of}
use Rattle.scripts.specs.Script.{Fields, bare, at_path, with_file, Fit, Command}
use Rattle.scripts.specs.Reading.{HasReading, IsStep, spell}
use Rattle.tree_runs.specs.Reports.{Entries, HasCircle, HasText}
use Rattle.top_calls.specs.declared.options.ToolOptions.{ToolOptions}
use Rattle.top_calls.specs.Standing.{Standing, start_at, with_tree}
use Rattle.top_calls.specs.Deeds.{Acts, Deed, IsRun, Leads, act, deed_of, run, show_text, task_of}
use Rattle.top_calls.specs.Ends.{line_of}
use Rattle.top_calls.specs.Outcome.{Opens, seen_at}
use Rattle.top_calls.specs.Existence.{AllHaveReports, HasDue, MeetsCircle, MeetsStuck}

-- the tree is in order, and the cache has a text
record IsFit (s : Standing) : Type 0 where
  order : AreInOrder s.tree
  text : HasText s.cache

-- the deed isn't without an outcome that is fit
abbrev HasAct : ToolOptions → Deed → Standing → Type 0
HasAct o d s = ((n : Standing) (r : List ℕ) → Acts o d s n r → IsFit n → ⊥) → ⊥

has-act : (o : ToolOptions) (f : Standing → List Entry) (g : Standing → List ℕ) (s : Standing) → AreInOrder (f s) → HasText s.cache → HasAct o (act f g) s
has-act o f g s order text none = none (with_tree s (f s)) (g s) (refl, refl) (record { order = order; text = text })

changed-in-order : (tree : List Entry) (changed : List ChangedFile) → AreInOrder tree → AreInOrder (put_all tree changed)
changed-in-order tree [] ordered = ordered
changed-in-order tree (f ∷ fs) ordered = changed-in-order (put_file tree f.path f.bytes) fs (put_file-in_order tree f.path f.bytes ordered)

has-run : AllHaveReports → (o : ToolOptions) (k : Kind) (s : Standing) → (HasCircle s.tree → ⊥) → IsFit s → HasAct o (run k) s
has-run all o k s goes fit none = all s.tree (task_of o k) s.cache fit.order fit.text goes
    (λ after report reports text.
    none (record { tree = put_all s.tree report.changed; found = report.found; cache = after; counts = report.counts; loads = s.loads + report.counts.loads; runs = s.runs + report.counts.runs; kept = Some text.text }) report.text
    (λ honest. record { report = report; reports = reports; tree = refl; found = refl; counts = refl; loads = refl; runs = refl; text = text.text; spelled = text.spelled; kept = refl; reply_is = refl })
    (record { order = changed-in-order s.tree report.changed fit.order; text = text }))

-- a lawful command that goes on does something: a row a command
has-deed : AllHaveReports → (o : ToolOptions) (w : Word) (f : Fields) (s : Standing) → (IsRun (deed_of w f) → HasCircle s.tree → ⊥) → Fit (shape_of w) f → w ≢ End → IsFit s → HasAct o (deed_of w f) s
has-deed all o Put bare s goes h e k = absurd h
has-deed all o Put (at_path path) s goes h e k = absurd h
has-deed all o Put (with_file path bytes) s goes h e k = has-act o (λ s. put_file s.tree path bytes) (λ s. []) s (put_file-in_order s.tree path bytes k.order) k.text
has-deed all o Del bare s goes h e k = absurd h
has-deed all o Del (at_path path) s goes h e k = has-act o (λ s. del_file s.tree path) (λ s. []) s (del_file-in_order s.tree path k.order) k.text
has-deed all o Del (with_file path bytes) s goes h e k = absurd h
has-deed all o Show bare s goes h e k = absurd h
has-deed all o Show (at_path path) s goes h e k = has-act o (λ s. s.tree) (λ s. show_text s.tree path) s k.order k.text
has-deed all o Show (with_file path bytes) s goes h e k = absurd h
has-deed all o Check f s goes h e k = has-run all o _ s (goes tt) k
has-deed all o Report f s goes h e k = has-run all o _ s (goes tt) k
has-deed all o Facts f s goes h e k = has-run all o _ s (goes tt) k
has-deed all o Fix f s goes h e k = has-run all o _ s (goes tt) k
has-deed all o Stats f s goes h e k = has-act o (λ s. s.tree) (λ s. stats_text s.counts) s k.order k.text
has-deed all o End f s goes h e k = absurd (e refl)

-- none of these commands is a run over a tree in which a package is stuck
abbrev GoesOn : ToolOptions → List Command → Standing → Type 0
GoesOn o cs s = MeetsStuck o cs s → ⊥

at-once : (o : ToolOptions) (c : Command) (cs : List Command) (s : Standing) → GoesOn o (c ∷ cs) s → IsRun (deed_of c.word c.fields) → HasCircle s.tree → ⊥
at-once o c cs s goes runs circle = goes (record { front = []; command = c; more = cs; split = refl; run = runs; now = s; replies = []; leads = (refl, refl); circle = circle })

goes-on : (o : ToolOptions) (c : Command) (cs : List Command) (s m : Standing) (r : List ℕ) → Acts o (deed_of c.word c.fields) s m r → GoesOn o (c ∷ cs) s → GoesOn o cs m
goes-on o c cs s m r does goes meets = goes (record {
  front = c ∷ meets.front;
  command = meets.command;
  more = meets.more;
  split = ap (λ (l : List Command). c ∷ l) meets.split;
  run = meets.run;
  now = meets.now;
  replies = r ++ meets.replies;
  leads = (m, r, meets.replies, does, meets.leads, refl);
  circle = meets.circle;
})

has-course : AllHaveReports → (o : ToolOptions) (cs : List Command) (s : Standing) → GoesOn o cs s → AllByRecursion IsStep cs → IsFit s → ((n : Standing) (r : List ℕ) → Leads o cs s n r → ⊥) → ⊥
has-course all o [] s goes a fit none = none s [] (refl, refl)
has-course all o (c ∷ cs) s goes a fit none =
    has-deed all o c.word c.fields s (at-once o c cs s goes) a.0.lawful a.0.goes fit
    (λ m r does kept. has-course all o cs m (goes-on o c cs s m r does goes) a.1 kept (λ n q leads. none n (r ++ q) (m, r, q, does, leads, refl)))

none-in-order : AreInOrder []
none-in-order = λ i j d lt within. absurd (omega arith)

pub has-due : AllHaveReports → (o : ToolOptions) (kept : Option (List ℕ)) (script : List ℕ) → HasReading script → (cache : Entries) (greeting : List ℕ) → Opens kept cache greeting → HasText cache → (MeetsCircle o cache kept script → ⊥) → HasDue o kept script
has-due all o kept script r cache greeting opens text goes none =
    has-course all o r.commands (start_at [] cache kept) (λ meets. goes (r.commands, r.rest, r.read, meets)) r.read.steps (record { order = none-in-order; text = text })
    (λ n q leads. none (seen_at n ((greeting ++ q) ++ line_of r.halt (length (spell r.commands)))) r.halt (record {
      arrives = record { cache = cache; greeting = greeting; opens = opens; commands = r.commands; rest = r.rest; read = r.read; now = n; replies = q; leads = leads };
      halts = r.halts;
      sees = refl;
    }))
