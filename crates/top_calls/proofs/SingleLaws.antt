-- How a single run ends, moment by moment.
use Rattle.std.proofs.Common.{◌≡◌, ◌⊎◌, inl, inr, ℕ, ◌+◌, ◌-◌, ◌≤◌, ◌<◌, List, [], ◌∷◌, ◌++◌, length, take, refl, sym, ap, ◌∙◌, arith, true, false, Option, None, Some, subst}
use Rattle.std.proofs.lemmas.List.{append-nil}
use Rattle.gv_base.specs.Files.{Entry}
use Rattle.analysis_core.specs.declared.command.Command.{Command as Kind}
use Rattle.tree_runs.specs.declared.report.TreeReport.{TreeReport}
use Rattle.folder.specs.Folders.{IsTold, put_all}
use Rattle.tree_runs.specs.Reports.{Work, Tree, Entries, IsHonest, Reports, Spends, SpendsAtMost, CacheSpelled, HasText}
use Rattle.top_calls.specs.declared.options.ToolOptions.{ToolOptions}
use Rattle.scripts.specs.declared.halt.Halt.TheVariants.{Ended}
use Rattle.top_calls.specs.declared.stop.Cut.{Cut}
use Rattle.top_calls.specs.declared.stop.Cut.TheVariants.{Source, Tree as TreeCut, Keeper, Sink, Memory, Stalled, Circle}
use Rattle.top_calls.specs.declared.stop.Stop.{Stop}
use Rattle.top_calls.specs.declared.stop.Stop.TheVariants.{Halted, Broken}
use Rattle.scripts.specs.Reading.{IsPrefix}
use Rattle.top_calls.specs.Standing.{start_at}
use Rattle.top_calls.specs.Deeds.{task_of}
use Rattle.top_calls.specs.Ends.{Moment, Fetching, Greeting, Reading, Running, Writing, Telling, Storing, is_exact, may}
use Rattle.top_calls.specs.Outcome.{Seen, seen_at, Opens, empty, spelled, ignored}
use Rattle.top_calls.specs.Due.{IsLawfulKept, IsWorkOf}
use Rattle.top_calls.specs.Desk.{more_loads, more_runs, IsHeld, HoldsText, HoldsEither}
use Rattle.top_calls.specs.Single.{run_files, SeenRun, RunAnswer, RunAt, IsRunCause, IsWhole, unopened, greeted, cut_off, halted, RunEnded}
use Rattle.top_calls.proofs.RunsLaws.{RunLaws}
use Rattle.top_calls.proofs.CourseLaws.{opens-honest}
use Rattle.top_calls.proofs.KeepLaws.{false-true}
use Rattle.top_calls.proofs.Steps.{at-most, exactly}
use Rattle.top_calls.proofs.BeginLaws.{nothing-done}

-- a run was done
pub record Done (o : ToolOptions) (kind : Kind) (read : Tree) (cache cache' : Entries) (report : TreeReport) (kits kits' : Work) : Type 0 where
  pub reports : IsHonest cache → Reports read (task_of o kind) cache cache' report
  pub spends : IsHonest cache → Spends kits kits' report

-- nothing more is asked of a cause that is no circle
run-cause : (cut : Cut) (m : Moment) → may Circle m ≡ false → may cut m ≡ true → (cache : Entries) (tree : Tree) → IsRunCause cut cache tree
run-cause Circle m c t cache tree = false-true (sym c ∙ t)
run-cause Source m c t cache tree = tt
run-cause TreeCut m c t cache tree = tt
run-cause Keeper m c t cache tree = tt
run-cause Sink m c t cache tree = tt
run-cause Memory m c t cache tree = tt
run-cause Stalled m c t cache tree = tt

-- what was executed is what the report counts
spent : {o : ToolOptions} {kind : Kind} {read : Tree} {cache cache' : Entries} {report : TreeReport} {kits kits' : Work} → RunLaws → Done o kind read cache cache' report kits kits' → (kept : Option (List ℕ)) (greeting : List ℕ) → Opens kept cache greeting → (stop : Stop) (seen : Seen)
    → seen.loads ≡ more_loads kits kits' → seen.runs ≡ more_runs kits kits' → IsLawfulKept kept → IsWorkOf stop kits.loads kits.runs seen kits'
spent {cache = cache} {kits = kits} {kits' = kits'} law d kept greeting opens stop seen a b l =
    let s = d.spends (opens-honest law kept cache greeting l opens) in
    let x = s.loads in let y = s.runs in
    exactly stop kits.loads kits.runs seen kits' (omega arith) (omega arith)

abbrev answer : {o : ToolOptions} {kind : Kind} {read : Tree} {cache cache' : Entries} {report : TreeReport} {kits kits' : Work} → Done o kind read cache cache' report kits kits' → (kept : Option (List ℕ)) (text : List ℕ) → CacheSpelled cache' text → RunAnswer o kind (start_at read cache kept)
answer {o} {kind} {read} {cache} {cache'} {report} {kits} {kits'} d kept text t = record {
  next = record { tree = put_all read report.changed; found = report.found; cache = cache'; counts = report.counts; loads = more_loads kits kits'; runs = more_runs kits kits'; kept = Some text };
  reply = report.text;
  changed = report.changed;
  ran = λ h. record { report = report; reports = d.reports h; tree = refl; found = refl; counts = refl; loads = (let s = (d.spends h).loads in omega arith); runs = (let s = (d.spends h).runs in omega arith); text = text; spelled = t; kept = refl; reply_is = refl };
  changes = λ h. refl;
}

pub ended-running : RunLaws → {o : ToolOptions} {kind : Kind} {read : Tree} {cache : Entries} {kits kits' : Work} → (IsHonest cache → SpendsAtMost read (task_of o kind) cache kits kits') → (cut : Cut) → may cut Running ≡ true → is_exact (Broken cut) ≡ false → IsRunCause cut cache read → (tree : Option (List Entry)) (held : Option (Option (List ℕ))) (kept : Option (List ℕ)) (files : List Entry) (greeting : List ℕ) → Opens kept cache greeting → IsHeld held kept → IsTold tree files → read ≡ run_files files → RunEnded o kind kept files (kits.loads) (kits.runs) (greeting ++ []) tree held kits' (Broken cut)
ended-running law {o} {kind} {read} {cache} {kits} {kits'} most cut allowed exact cause tree held kept files greeting opens h t e =
    let got : SeenRun = record { seen = record { out = greeting; kept = kept; found = false; loads = more_loads kits kits'; runs = more_runs kits kits' }; files = files } in
    let loads : IsHonest cache → (a : RunAnswer o kind (start_at read cache kept)) → more_loads kits kits' ≤ a.next.loads = λ x a. (let b = a.ran x in let m = (most x).loads a.next.cache b.report b.reports in let n = b.loads in omega arith) in
    let runs : IsHonest cache → (a : RunAnswer o kind (start_at read cache kept)) → more_runs kits kits' ≤ a.next.runs = λ x a. (let b = a.ran x in let m = (most x).runs a.next.cache b.report b.reports in let n = b.runs in omega arith) in
    let at : RunAt Running o kind (start_at read cache kept) files greeting got = (refl, refl, refl, loads, runs) in
    record {
      got = got;
      outcome = cut_off cut refl cache greeting opens Running allowed (subst (IsRunCause cut cache) e cause) (subst (λ z. RunAt Running o kind (start_at z cache kept) files greeting got) e at);
      out_is = append-nil greeting;
      work = λ x. at-most (Broken cut) kits.loads kits.runs got.seen kits' exact (omega arith) (omega arith);
      holds = h;
      told = t;
    }

pub ended-writing : RunLaws → {o : ToolOptions} {kind : Kind} {read : Tree} {cache cache' : Entries} {report : TreeReport} {kits kits' : Work} → Done o kind read cache cache' report kits kits' → HasText cache' → (cut : Cut) → may cut Writing ≡ true → (tree tree' : Option (List Entry)) → ((files : List Entry) → IsTold tree files → (n : ℕ) × (n ≤ length report.changed) × IsTold tree' (put_all files (take n report.changed)) × (may cut Writing ≡ true)) → (held : Option (Option (List ℕ))) (kept : Option (List ℕ)) (files : List Entry) (greeting : List ℕ) → Opens kept cache greeting → IsHeld held kept → IsTold tree files → read ≡ run_files files → RunEnded o kind kept files (kits.loads) (kits.runs) (greeting ++ []) tree' held kits' (Broken cut)
ended-writing law {o} {kind} {read} {cache} {cache'} {report} {kits} {kits'} d x cut allowed tree tree' w held kept files greeting opens h t e =
    let p = w files t in
    let a = answer d kept x.text x.spelled in
    let got : SeenRun = record { seen = record { out = greeting; kept = kept; found = report.found; loads = more_loads kits kits'; runs = more_runs kits kits' }; files = put_all files (take p.0 report.changed) } in
    let at : RunAt Writing o kind (start_at read cache kept) files greeting got = (a, p.0, p.1, refl, refl) in
    record {
      got = got;
      outcome = cut_off cut refl cache greeting opens Writing allowed (run-cause cut Writing refl allowed cache (run_files files)) (subst (λ z. RunAt Writing o kind (start_at z cache kept) files greeting got) e at);
      out_is = append-nil greeting;
      work = spent law d kept greeting opens (Broken cut) got.seen refl refl;
      holds = h;
      told = p.2;
    }

pub ended-telling : RunLaws → {o : ToolOptions} {kind : Kind} {read : Tree} {cache cache' : Entries} {report : TreeReport} {kits kits' : Work} → Done o kind read cache cache' report kits kits' → HasText cache' → (cut : Cut) → may cut Telling ≡ true → (part : List ℕ) → IsPrefix part (report.text) → (tree tree' : Option (List Entry)) → ((files : List Entry) → IsTold tree files → IsTold tree' (put_all files report.changed)) → (held : Option (Option (List ℕ))) (kept : Option (List ℕ)) (files : List Entry) (greeting : List ℕ) → Opens kept cache greeting → IsHeld held kept → IsTold tree files → read ≡ run_files files → RunEnded o kind kept files (kits.loads) (kits.runs) (greeting ++ part) tree' held kits' (Broken cut)
ended-telling law {o} {kind} {read} {cache} {cache'} {report} {kits} {kits'} d x cut allowed part pre tree tree' w held kept files greeting opens h t e =
    let a = answer d kept x.text x.spelled in
    let got : SeenRun = record { seen = record { out = greeting ++ part; kept = kept; found = report.found; loads = more_loads kits kits'; runs = more_runs kits kits' }; files = put_all files report.changed } in
    let at : RunAt Telling o kind (start_at read cache kept) files greeting got = (a, part, pre, refl, refl) in
    record {
      got = got;
      outcome = cut_off cut refl cache greeting opens Telling allowed (run-cause cut Telling refl allowed cache (run_files files)) (subst (λ z. RunAt Telling o kind (start_at z cache kept) files greeting got) e at);
      out_is = refl;
      work = spent law d kept greeting opens (Broken cut) got.seen refl refl;
      holds = h;
      told = w files t;
    }

pub ended-storing : RunLaws → {o : ToolOptions} {kind : Kind} {read : Tree} {cache cache' : Entries} {report : TreeReport} {kits kits' : Work} → Done o kind read cache cache' report kits kits' → HasText cache' → (cut : Cut) → may cut Storing ≡ true → (part : List ℕ) → part ≡ report.text → (tree tree' : Option (List Entry)) → ((files : List Entry) → IsTold tree files → IsTold tree' (put_all files report.changed)) → (held held' : Option (Option (List ℕ))) → HoldsEither cache' held held' → (kept : Option (List ℕ)) (files : List Entry) (greeting : List ℕ) → Opens kept cache greeting → IsHeld held kept → IsTold tree files → read ≡ run_files files → RunEnded o kind kept files (kits.loads) (kits.runs) (greeting ++ part) tree' held' kits' (Broken cut)
ended-storing law {o} {kind} {read} {cache} {cache'} {report} {kits} {kits'} d x cut allowed part whole tree tree' w held held' either kept files greeting opens h t e = elim either [
  | inl s ↦ make x.text x.spelled kept (inl refl) (subst (λ z. IsHeld z kept) (sym s) h)
  | inr s ↦ make s.text s.spelled (Some s.text) (inr refl) s.holds
]
  where
    make : (text : List ℕ) (y : CacheSpelled cache' text) (k : Option (List ℕ)) → (k ≡ kept) ⊎ (k ≡ Some text) → IsHeld held' k → RunEnded o kind kept files (kits.loads) (kits.runs) (greeting ++ part) tree' held' kits' (Broken cut)
    make text y k z q =
        let a = answer d kept text y in
        let got : SeenRun = record { seen = record { out = greeting ++ report.text; kept = k; found = report.found; loads = more_loads kits kits'; runs = more_runs kits kits' }; files = put_all files report.changed } in
        let at : RunAt Storing o kind (start_at read cache kept) files greeting got = (a, k, z, refl, refl) in
        record {
          got = got;
          outcome = cut_off cut refl cache greeting opens Storing allowed (run-cause cut Storing refl allowed cache (run_files files)) (subst (λ z. RunAt Storing o kind (start_at z cache kept) files greeting got) e at);
          out_is = ap (λ z. greeting ++ z) whole;
          work = spent law d kept greeting opens (Broken cut) got.seen refl refl;
          holds = q;
          told = w files t;
        }

pub ended-whole : RunLaws → {o : ToolOptions} {kind : Kind} {read : Tree} {cache cache' : Entries} {report : TreeReport} {kits kits' : Work} → Done o kind read cache cache' report kits kits' → (part : List ℕ) → part ≡ report.text → (tree tree' : Option (List Entry)) → ((files : List Entry) → IsTold tree files → IsTold tree' (put_all files report.changed)) → (held held' : Option (Option (List ℕ))) → HoldsText cache' held' → (kept : Option (List ℕ)) (files : List Entry) (greeting : List ℕ) → Opens kept cache greeting → IsHeld held kept → IsTold tree files → read ≡ run_files files → RunEnded o kind kept files (kits.loads) (kits.runs) (greeting ++ part) tree' held' kits' (Halted Ended report.found)
ended-whole law {o} {kind} {read} {cache} {cache'} {report} {kits} {kits'} d part whole tree tree' w held held' s kept files greeting opens h t e =
    let a : RunAnswer o kind (start_at read cache kept) = answer d kept s.text s.spelled in
    let got : SeenRun = record { seen = record { out = greeting ++ report.text; kept = Some s.text; found = report.found; loads = more_loads kits kits'; runs = more_runs kits kits' }; files = put_all files report.changed } in
    let due : IsWhole o kind (start_at read cache kept) files greeting got = (a, refl) in
    record {
      got = got;
      outcome = halted refl cache greeting opens (subst (λ z. IsWhole o kind (start_at z cache kept) files greeting got) e due);
      out_is = ap (λ z. greeting ++ z) whole;
      work = spent law d kept greeting opens (Halted Ended report.found) got.seen refl refl;
      holds = s.holds;
      told = w files t;
    }

-- The cache is as it was found, and isn't stored: what the keeper holds is its text. Over a cache that isn't honest nothing is said of what it holds.
pub ended-still : RunLaws → {o : ToolOptions} {kind : Kind} {read : Tree} {cache cache' : Entries} {report : TreeReport} {kits kits' : Work} → Done o kind read cache cache' report kits kits' → (IsHonest cache → cache' ≡ cache) → 0 < length cache → (part : List ℕ) → part ≡ report.text → (tree tree' : Option (List Entry)) → ((files : List Entry) → IsTold tree files → IsTold tree' (put_all files report.changed)) → (held : Option (Option (List ℕ))) (kept : Option (List ℕ)) (files : List Entry) (greeting : List ℕ) → Opens kept cache greeting → IsHeld held kept → IsTold tree files → read ≡ run_files files → RunEnded o kind kept files (kits.loads) (kits.runs) (greeting ++ part) tree' held kits' (Halted Ended report.found)
ended-still law {o} {kind} {read} {cache} {cache'} {report} {kits} {kits'} d same some part whole tree tree' w held kept files greeting opens h t e = of opens
  where
    of : Opens kept cache greeting → RunEnded o kind kept files (kits.loads) (kits.runs) (greeting ++ part) tree' held kits' (Halted Ended report.found)
    of (empty is none said) = absurd (omega (arith, some, ap length none))
    of (ignored bytes is not none said) = absurd (omega (arith, some, ap length none))
    of (spelled bytes is small text said) =
        let a : RunAnswer o kind (start_at read cache kept) = record {
          next = record { tree = put_all read report.changed; found = report.found; cache = cache'; counts = report.counts; loads = more_loads kits kits'; runs = more_runs kits kits'; kept = kept };
          reply = report.text;
          changed = report.changed;
          ran = λ x. record { report = report; reports = d.reports x; tree = refl; found = refl; counts = refl; loads = (let s = (d.spends x).loads in omega arith); runs = (let s = (d.spends x).runs in omega arith); text = bytes; spelled = subst (λ z. CacheSpelled z bytes) (sym (same x)) text; kept = is; reply_is = refl };
          changes = λ x. refl;
        } in
        let got : SeenRun = record { seen = record { out = greeting ++ report.text; kept = kept; found = report.found; loads = more_loads kits kits'; runs = more_runs kits kits' }; files = put_all files report.changed } in
        let due : IsWhole o kind (start_at read cache kept) files greeting got = (a, refl) in
        record {
          got = got;
          outcome = halted refl cache greeting opens (subst (λ z. IsWhole o kind (start_at z cache kept) files greeting got) e due);
          out_is = ap (λ z. greeting ++ z) whole;
          work = spent law d kept greeting opens (Halted Ended report.found) got.seen refl refl;
          holds = h;
          told = w files t;
        }

abbrev pub told_files : Option (List Entry) → List Entry
told_files None = []
told_files (Some files) = files

pub IsTold-files : (tree : Option (List Entry)) → IsTold tree (told_files tree)
IsTold-files None = tt
IsTold-files (Some files) = refl

pub run-unopened : (o : ToolOptions) (kind : Kind) (kept : Option (List ℕ)) (files : List Entry) (kits : Work) (tree : Option (List Entry)) (held : Option (Option (List ℕ))) (cut : Cut) → may cut Fetching ≡ true → IsHeld held kept → IsTold tree files → RunEnded o kind kept files (kits.loads) (kits.runs) [] tree held kits (Broken cut)
run-unopened o kind kept files kits tree held cut allowed h t = record {
  got = record { seen = record { out = []; kept = kept; found = false; loads = 0; runs = 0 }; files = files };
  outcome = unopened cut refl allowed refl;
  out_is = refl;
  work = λ l. nothing-done (Broken cut) kits _ refl refl;
  holds = h;
  told = t;
}

pub run-greeted : (o : ToolOptions) (kind : Kind) (kept : Option (List ℕ)) (files : List Entry) (kits : Work) (tree : Option (List Entry)) (held : Option (Option (List ℕ))) (cut : Cut) (cache : Entries) (greeting part : List ℕ) → may cut Greeting ≡ true → Opens kept cache greeting → IsPrefix part greeting → IsHeld held kept → IsTold tree files → RunEnded o kind kept files (kits.loads) (kits.runs) part tree held kits (Broken cut)
run-greeted o kind kept files kits tree held cut cache greeting part allowed opens pre h t = record {
  got = record { seen = record { out = part; kept = kept; found = false; loads = 0; runs = 0 }; files = files };
  outcome = greeted cut refl allowed cache greeting part opens pre refl;
  out_is = refl;
  work = λ l. nothing-done (Broken cut) kits _ refl refl;
  holds = h;
  told = t;
}

pub run-unread : (o : ToolOptions) (kind : Kind) (kept : Option (List ℕ)) (files : List Entry) (kits : Work) (tree : Option (List Entry)) (held : Option (Option (List ℕ))) (cut : Cut) (cache : Entries) (greeting out : List ℕ) → may cut Reading ≡ true → Opens kept cache greeting → out ≡ greeting → IsHeld held kept → IsTold tree files → RunEnded o kind kept files (kits.loads) (kits.runs) out tree held kits (Broken cut)
run-unread o kind kept files kits tree held cut cache greeting out allowed opens e h t = record {
  got = record { seen = seen_at (start_at (run_files files) cache kept) greeting; files = files };
  outcome = cut_off cut refl cache greeting opens Reading allowed (run-cause cut Reading refl allowed cache (run_files files)) refl;
  out_is = e;
  work = λ l. nothing-done (Broken cut) kits _ refl refl;
  holds = h;
  told = t;
}
