-- The headline of a single run, from what it has done.
use Rattle.std.proofs.Common.{◌≡◌, ◌⊎◌, inl, inr, ℕ, List, refl, sym, ap, ◌∙◌, arith, Bool, true, false, Option, Some, subst}
use Rattle.std.specs.Io.KnownBytes.{Appends}
use Rattle.gv_base.specs.Counts.{Rose}
use Rattle.gv_base.specs.Files.{Entry}
use Rattle.gv_base.specs.Keepers.{KeeperView}
use Rattle.gv_base.specs.Sinks.{SinkView}
use Rattle.gv_base.specs.Trees.{TreeView}
use Rattle.analysis_core.specs.declared.command.Command.{Command as Kind}
use Rattle.scripts.specs.declared.halt.Halt.{Halt}
use Rattle.scripts.specs.declared.halt.Halt.TheVariants.{Ended, Refused, TooLong}
use Rattle.tree_runs.specs.Reports.{Work, HasCircle}
use Rattle.top_calls.specs.declared.options.ToolOptions.{ToolOptions}
use Rattle.top_calls.specs.declared.stop.Cut.TheVariants.{Source, Tree, Keeper, Sink, Memory, Stalled, Circle}
use Rattle.top_calls.specs.declared.stop.Stop.{Stop}
use Rattle.top_calls.specs.declared.stop.Stop.TheVariants.{Halted, Broken}
use Rattle.top_calls.specs.Ends.{Fetching, Greeting, is_exact, number_of}
use Rattle.top_calls.specs.Due.{IsLawfulKept}
use Rattle.top_calls.specs.Desk.{IsHeld}
use Rattle.top_calls.specs.Headline.{keeper_faults, IsLawfulHeld, IsLeftOff}
use Rattle.top_calls.specs.RunHeadline.{IsRunDone, NoneRose, RunCauses, RunGoesOut, Single}
use Rattle.top_calls.specs.Single.{SeenRun, RunOutcome, unopened, greeted, cut_off, halted, DueRun, IsRunCause, SingleRuns, run_files}
use Rattle.top_calls.proofs.RunsLaws.{RunLaws}
use Rattle.top_calls.proofs.CourseLaws.{opens-honest}
use Rattle.top_calls.proofs.KeepLaws.{not-allowed}
use Rattle.top_calls.proofs.HeadlineLaws.{broken-cut, lawful-kept, never-both, not-usage, only-cut}
use Rattle.top_calls.proofs.RunDueLaws.{run-lawful, run-single, run-within}

-- where rules go in a circle
run-circle : RunLaws → (o : ToolOptions) (kind : Kind) (k : Option (List ℕ)) (files : List Entry) (got : SeenRun) (stop : Stop) → RunOutcome o kind k files got stop → IsLawfulKept k → stop ≡ Broken Circle → HasCircle (run_files files)
run-circle law o kind k files got stop (unopened cut s allowed e) l y = absurd (not-allowed cut Circle Fetching refl allowed (broken-cut cut Circle stop s y))
run-circle law o kind k files got stop (greeted cut s allowed cache g part op p e) l y = absurd (not-allowed cut Circle Greeting refl allowed (broken-cut cut Circle stop s y))
run-circle law o kind k files got stop (halted s cache g op w) l y = absurd (never-both Circle Ended got.seen.found stop y s)
run-circle law o kind k files got stop (cut_off cut s cache g op m allowed cause at) l y =
    let there : IsRunCause Circle cache (run_files files) = subst (λ z. IsRunCause z cache (run_files files)) (broken-cut cut Circle stop s y) cause in
    there (opens-honest law k cache g l op)

-- a run that came to its end
run-due : (o : ToolOptions) (kind : Kind) (k : Option (List ℕ)) (files : List Entry) (got : SeenRun) (stop : Stop) → RunOutcome o kind k files got stop → stop ≡ Halted Ended got.seen.found → DueRun o kind k files got
run-due o kind k files got stop (unopened cut s allowed e) y = absurd (never-both cut Ended got.seen.found stop s y)
run-due o kind k files got stop (greeted cut s allowed cache g part op p e) y = absurd (never-both cut Ended got.seen.found stop s y)
run-due o kind k files got stop (cut_off cut s cache g op m allowed cause at) y = absurd (never-both cut Ended got.seen.found stop s y)
run-due o kind k files got stop (halted s cache g op w) y = record { cache = cache; greeting = g; opens = op; whole = w }

run-goes : RunLaws → (o : ToolOptions) (kind : Kind) (k : Option (List ℕ)) (files : List Entry) (got : SeenRun) (stop : Stop) → RunOutcome o kind k files got stop → RunGoesOut o kind k files got stop
run-goes law o kind k files got stop out = record {
  due = run-due o kind k files got stop out;
  single = λ l whole due y. run-single law o kind k files got whole l (run-due o kind k files got stop out y) due;
  within = λ l whole due. run-within law o kind k files got whole stop l out due;
}

pub Single-of : RunLaws → (o : ToolOptions) (kind : Kind) (x y : SinkView) (t u : TreeView) (h i : KeeperView) (k l : Work) (stop : Stop) (n : ℕ) → SingleRuns o kind x y t.files u.files h.kept i.kept k l stop → n ≡ number_of stop → Single o kind x y t u h i k l n
Single-of law o kind x y t u h i k l stop n r e = record {
  kept = r.kept;
  found = r.found;
  files = r.files;
  told = r.told;
  got = r.ended.got;
  says = subst (λ z. Appends x.held y.held z) r.ended.out_is r.says;
  writes = r.ended.told;
  holds = r.ended.holds;
  stop = stop;
  number = e;
  work = r.ended.work;
  outcome = r.ended.outcome;
  circle = run-circle law o kind r.kept r.files r.ended.got stop r.ended.outcome;
  due = run-goes law o kind r.kept r.files r.ended.got stop r.ended.outcome;
}

same-halt : (h j : Halt) (f g : Bool) (stop : Stop) → stop ≡ Halted h f → stop ≡ Halted j g → h ≡ j
same-halt h j f g stop x y = let z : ◌≡◌ {A = Stop} (Halted h f) (Halted j g) = sym x ∙ y in cc

ended-refused : Ended ≡ Refused → ⊥
ended-refused e = cc

ended-long : Ended ≡ TooLong → ⊥
ended-long e = cc

-- a run is refused by no grammar
halts-ended : (o : ToolOptions) (kind : Kind) (k : Option (List ℕ)) (files : List Entry) (got : SeenRun) (stop : Stop) (h : Halt) (f : Bool) → RunOutcome o kind k files got stop → stop ≡ Halted h f → Ended ≡ h
halts-ended o kind k files got stop h f (unopened cut s allowed e) y = absurd (never-both cut h f stop s y)
halts-ended o kind k files got stop h f (greeted cut s allowed cache g part op p e) y = absurd (never-both cut h f stop s y)
halts-ended o kind k files got stop h f (cut_off cut s cache g op m allowed cause at) y = absurd (never-both cut h f stop s y)
halts-ended o kind k files got stop h f (halted s cache g op w) y = same-halt Ended h got.seen.found f stop s y

not-eight : (stop : Stop) → ((f : Bool) → stop ≡ Halted Refused f → ⊥) → number_of stop ≡ 8 → ⊥
not-eight (Halted Ended true) w e = omega arith
not-eight (Halted Ended false) w e = omega arith
not-eight (Halted Refused f) w e = w f refl
not-eight (Halted TooLong f) w e = omega arith
not-eight (Broken Source) w e = omega arith
not-eight (Broken Tree) w e = omega arith
not-eight (Broken Keeper) w e = omega arith
not-eight (Broken Sink) w e = omega arith
not-eight (Broken Memory) w e = omega arith
not-eight (Broken Stalled) w e = omega arith
not-eight (Broken Circle) w e = omega arith

not-nine : (stop : Stop) → ((f : Bool) → stop ≡ Halted TooLong f → ⊥) → number_of stop ≡ 9 → ⊥
not-nine (Halted Ended true) w e = omega arith
not-nine (Halted Ended false) w e = omega arith
not-nine (Halted Refused f) w e = omega arith
not-nine (Halted TooLong f) w e = w f refl
not-nine (Broken Source) w e = omega arith
not-nine (Broken Tree) w e = omega arith
not-nine (Broken Keeper) w e = omega arith
not-nine (Broken Sink) w e = omega arith
not-nine (Broken Memory) w e = omega arith
not-nine (Broken Stalled) w e = omega arith
not-nine (Broken Circle) w e = omega arith

-- the words of a script refuse no run
pub single-unrefused : (o : ToolOptions) (kind : Kind) (x y : SinkView) (t u : TreeView) (h i : KeeperView) (k l : Work) (n : ℕ) → Single o kind x y t u h i k l n → n ≡ 8 → ⊥
single-unrefused o kind x y t u h i k l n s z = not-eight s.stop (λ f y. ended-refused (halts-ended o kind s.kept s.files s.got s.stop Refused f s.outcome y)) (sym s.number ∙ z)

pub single-short : (o : ToolOptions) (kind : Kind) (x y : SinkView) (t u : TreeView) (h i : KeeperView) (k l : Work) (n : ℕ) → Single o kind x y t u h i k l n → n ≡ 9 → ⊥
single-short o kind x y t u h i k l n s z = not-nine s.stop (λ f y. ended-long (halts-ended o kind s.kept s.files s.got s.stop TooLong f s.outcome y)) (sym s.number ∙ z)

pub RunCauses-of : (o : ToolOptions) (kind : Kind) (x y : SinkView) (t u : TreeView) (h i : KeeperView) (k l : Work) (stop : Stop) (n : ℕ) → SingleRuns o kind x y t.files u.files h.kept i.kept k l stop → n ≡ number_of stop
    → (stop ≡ Broken Tree → Rose t.faults u.faults) → (stop ≡ Broken Keeper → Rose (keeper_faults h) (keeper_faults i)) → (stop ≡ Broken Sink → Rose x.faults y.faults) → (stop ≡ Broken Stalled → Rose x.stalls y.stalls) → (stop ≡ Broken Source → ⊥)
    → RunCauses x y t u h i n
RunCauses-of o kind x y t u h i k l stop n r e tree keeper sink stalled source = record {
  tree_fault = λ z. tree (only-cut stop Tree (sym e ∙ z));
  keeper_fault = λ z. keeper (only-cut stop Keeper (sym e ∙ z));
  sink_fault = λ z. sink (only-cut stop Sink (sym e ∙ z));
  sink_stuck = λ z. stalled (only-cut stop Stalled (sym e ∙ z));
  not_usage = λ z. not-usage stop (sym e ∙ z);
  not_source = λ z. source (only-cut stop Source (sym e ∙ z));
  not_refused = λ z. not-eight stop (λ f y. ended-refused (halts-ended o kind r.kept r.files r.ended.got stop Refused f r.ended.outcome y)) (sym e ∙ z);
  not_long = λ z. not-nine stop (λ f y. ended-long (halts-ended o kind r.kept r.files r.ended.got stop TooLong f r.ended.outcome y)) (sym e ∙ z);
}

pub run-lawful-of : RunLaws → (o : ToolOptions) (kind : Kind) (x y : SinkView) (t u : Option (List Entry)) (h i : Option (Option (List ℕ))) (k l : Work) (stop : Stop) → SingleRuns o kind x y t u h i k l stop → (kept : Option (List ℕ)) → h ≡ Some kept → IsLawfulKept kept → IsLawfulHeld i
run-lawful-of law o kind x y t u h i k l stop r kept e w =
    let f : IsHeld (Some kept) r.kept = subst (λ z. IsHeld z r.kept) e r.found in
    lawful-kept i r.ended.got.seen.kept r.ended.holds (run-lawful law o kind r.kept r.files r.ended.got stop (subst IsLawfulKept f w) r.ended.outcome)

same-found : (h j : Halt) (f g : Bool) (stop : Stop) → stop ≡ Halted h f → stop ≡ Halted j g → g ≡ f
same-found h j f g stop x y = let z : ◌≡◌ {A = Stop} (Halted h f) (Halted j g) = sym x ∙ y in cc

found-of : (o : ToolOptions) (kind : Kind) (k : Option (List ℕ)) (files : List Entry) (got : SeenRun) (stop : Stop) (h : Halt) (f : Bool) → RunOutcome o kind k files got stop → stop ≡ Halted h f → stop ≡ Halted Ended got.seen.found
found-of o kind k files got stop h f (unopened cut s allowed e) y = absurd (never-both cut h f stop s y)
found-of o kind k files got stop h f (greeted cut s allowed cache g part op p e) y = absurd (never-both cut h f stop s y)
found-of o kind k files got stop h f (cut_off cut s cache g op m allowed cause at) y = absurd (never-both cut h f stop s y)
found-of o kind k files got stop h f (halted s cache g op w) y = s

-- where nothing rose, all that is due is seen, or memory was wanting, or rules go in a circle
pub done-of : (o : ToolOptions) (kind : Kind) (x y : SinkView) (t u : TreeView) (h i : KeeperView) (k l : Work) (n : ℕ) → Single o kind x y t u h i k l n → RunCauses x y t u h i n → NoneRose x y t u h i → IsRunDone o kind x y t u h i k l n ⊎ IsLeftOff n
done-of o kind x y t u h i k l n s c w = go s.stop refl
  where
    number : (z : Stop) → s.stop ≡ z → n ≡ number_of z
    number z p = s.number ∙ ap number_of p

    whole : s.stop ≡ Halted Ended s.got.seen.found → IsRunDone o kind x y t u h i k l n
    whole p = record {
      kept = s.kept;
      found = s.found;
      files = s.files;
      told = s.told;
      got = s.got;
      due = s.due.due p;
      number = number (Halted Ended s.got.seen.found) p;
      says = s.says;
      writes = s.writes;
      holds = s.holds;
      loads = λ z. (s.work z).loads_all (ap is_exact p);
      runs = λ z. (s.work z).runs_all (ap is_exact p);
    }

    go : (z : Stop) → s.stop ≡ z → IsRunDone o kind x y t u h i k l n ⊎ IsLeftOff n
    go (Halted j f) p = inl (whole (found-of o kind s.kept s.files s.got s.stop j f s.outcome p))
    go (Broken Source) p = absurd (c.not_source (number (Broken Source) p))
    go (Broken Tree) p = absurd (w.tree_faults (c.tree_fault (number (Broken Tree) p)))
    go (Broken Keeper) p = absurd (w.keeper_faults_same (c.keeper_fault (number (Broken Keeper) p)))
    go (Broken Sink) p = absurd (w.sink_faults (c.sink_fault (number (Broken Sink) p)))
    go (Broken Memory) p = inr (inl (number (Broken Memory) p))
    go (Broken Stalled) p = absurd (w.sink_stalls (c.sink_stuck (number (Broken Stalled) p)))
    go (Broken Circle) p = inr (inr (number (Broken Circle) p))
