-- What is due depends on no number of workers.
use Rattle.std.proofs.Common.{ℕ, List, [], ◌∷◌, Option}
use Rattle.gv_base.specs.Files.{Entry}
use Rattle.analysis_core.specs.declared.command.Command.{Command as Kind}
use Rattle.scripts.specs.Script.{Command}
use Rattle.scripts.specs.declared.halt.Halt.{Halt}
use Rattle.top_calls.specs.declared.options.ToolOptions.{ToolOptions}
use Rattle.top_calls.specs.Standing.{Standing, start_at}
use Rattle.top_calls.specs.Deeds.{Acts, Deed, Leads, Ran, act, deed_of, run, stop}
use Rattle.top_calls.specs.Outcome.{Seen}
use Rattle.top_calls.specs.Due.{Due}
use Rattle.top_calls.specs.Single.{DueRun, SeenRun, run_files}
use Rattle.top_calls.specs.Workers.{with_workers}

abbrev ran-by : (n : ℕ) (o : ToolOptions) (k : Kind) (a b : Standing) (r : List ℕ) → Ran o k a b r → Ran (with_workers n o) k a b r
ran-by n o k a b r x = record { report = x.report; reports = x.reports; tree = x.tree; found = x.found; counts = x.counts; loads = x.loads; runs = x.runs; text = x.text; spelled = x.spelled; kept = x.kept; reply_is = x.reply_is }

acts-by : (n : ℕ) (o : ToolOptions) (d : Deed) (a b : Standing) (r : List ℕ) → Acts o d a b r → Acts (with_workers n o) d a b r
acts-by n o (act sets says) a b r x = x
acts-by n o (run k) a b r x = λ h. ran-by n o k a b r (x h)
acts-by n o stop a b r x = x

leads-by : (n : ℕ) (o : ToolOptions) (cs : List Command) (a b : Standing) (r : List ℕ) → Leads o cs a b r → Leads (with_workers n o) cs a b r
leads-by n o [] a b r x = x
leads-by n o (c ∷ cs) a b r x = (x.0, x.1, x.2, acts-by n o (deed_of c.word c.fields) a x.0 x.1 x.3, leads-by n o cs x.0 b x.2 x.4, x.5)

pub due-by : (n : ℕ) (o : ToolOptions) (kept : Option (List ℕ)) (script : List ℕ) (seen : Seen) (halt : Halt) → Due o kept script seen halt → Due (with_workers n o) kept script seen halt
due-by n o kept script seen halt d =
    let a = d.arrives in
    record {
      arrives = record { cache = a.cache; greeting = a.greeting; opens = a.opens; commands = a.commands; rest = a.rest; read = a.read; now = a.now; replies = a.replies; leads = leads-by n o a.commands (start_at [] a.cache kept) a.now a.replies a.leads };
      halts = d.halts;
      sees = d.sees;
    }

pub run-by : (n : ℕ) (o : ToolOptions) (k : Kind) (kept : Option (List ℕ)) (files : List Entry) (got : SeenRun) → DueRun o k kept files got → DueRun (with_workers n o) k kept files got
run-by n o k kept files got d =
    let a = d.whole.0 in
    record {
      cache = d.cache;
      greeting = d.greeting;
      opens = d.opens;
      whole = (record { next = a.next; reply = a.reply; changed = a.changed; ran = λ h. ran-by n o k (start_at (run_files files) d.cache kept) a.next a.reply (a.ran h); changes = a.changes }, d.whole.1);
    }
