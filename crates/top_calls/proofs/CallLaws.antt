-- The top call, by what its words ask.
use Rattle.std.proofs.Common.{◌≡◌, ◌⊎◌, inl, inr, ℕ, [], refl, sym, ap, ◌∙◌, arith, false, true, subst}
use Rattle.std.specs.Io.KnownBytes.{Appends}
use Rattle.gv_base.specs.Counts.{Rose}
use Rattle.gv_base.specs.Keepers.{KeeperView}
use Rattle.gv_base.specs.Sinks.{SinkView}
use Rattle.gv_base.specs.Sources.{SourceView}
use Rattle.gv_base.proofs.Known.{Appends-none, Consumes-none}
use Rattle.chain_script.specs.Chain.{chain_text}
use Rattle.analysis_core.specs.declared.command.Command.{Command as Kind}
use Rattle.tree_runs.specs.Reports.{Work}
use Rattle.words.specs.declared.asked.Words.{Words}
use Rattle.words.specs.declared.asked.Asked.{Asked}
use Rattle.words.specs.declared.asked.Asked.TheVariants as asked
use Rattle.top_calls.specs.declared.options.ToolOptions.{ToolOptions}
use Rattle.top_calls.specs.declared.stop.Cut.{Cut}
use Rattle.top_calls.specs.declared.stop.Cut.TheVariants.{Source, Tree, Keeper, Sink, Memory, Stalled, Circle}
use Rattle.top_calls.specs.declared.stop.Stop.TheVariants.{Broken}
use Rattle.top_calls.specs.Ends.{Telling, may, number_of}
use Rattle.top_calls.specs.Calls.{AllSure, CallCauses, Does, Generates, IsDone, LoadCauses, Loads, Serves, World, WriteCauses, WritesOut, whole, part, options_of, sure_source}
use Rattle.top_calls.specs.Headline.{Causes, IsLeftOff, NothingRose, Session}
use Rattle.top_calls.specs.RunHeadline.{RunCauses, Single}
use Rattle.top_calls.specs.Turn.{Runs}
use Rattle.top_calls.proofs.RunsLaws.{RunLaws}
use Rattle.top_calls.proofs.BeginLaws.{HasEnded-unopened, IsHeld-told, told}
use Rattle.top_calls.proofs.KeepLaws.{not-allowed}
use Rattle.top_calls.proofs.HeadlineLaws.{Session-of, broken-cut, complete-of, not-usage, only-cut, session-long}
use Rattle.top_calls.proofs.RunHeadlineLaws.{done-of, single-short, single-unrefused}

-- nothing was written of a chain
pub generates-none : (count : ℕ) (sink : SinkView) (n : ℕ) → n ≡ 7 → Generates count sink sink n
generates-none count sink n e = record { out = []; says = Appends-none sink.held; stop = Broken Memory; number = e; ends = part Memory refl refl (chain_text count, refl) }

-- a session over a source that is sure, of which nothing was asked
pub loads-none : RunLaws → (o : ToolOptions) (count : ℕ) (sink : SinkView) (keeper : KeeperView) (kits : Work) (n : ℕ) → n ≡ 7 → Loads o count sink sink keeper keeper kits kits n
loads-none law o count sink keeper kits n e =
    let source = sure_source (chain_text count) in
    let r : Runs o source source sink sink kits kits keeper.kept keeper.kept (Broken Memory) = record {
      kept = told keeper.kept;
      held_is = IsHeld-told keeper.kept;
      given = [];
      out = [];
      takes = Consumes-none source.left;
      counts = omega arith;
      within = omega arith;
      says = Appends-none sink.held;
      ended = HasEnded-unopened o (told keeper.kept) source.left kits keeper.kept Memory refl (IsHeld-told keeper.kept);
    } in
    record { after = source; sure = refl; session = Session-of law o source source sink sink keeper keeper kits kits (Broken Memory) n r e }

-- ---- the statuses of a script that is written

none-seven : (sink : SinkView) (n : ℕ) → n ≡ 7 → WriteCauses sink sink n
none-seven sink n e = record {
  sink_fault = λ z. absurd (omega arith);
  sink_stuck = λ z. absurd (omega arith);
  not_usage = λ z. omega arith;
  not_source = λ z. omega arith;
  not_tree = λ z. omega arith;
  not_keeper = λ z. omega arith;
}

pub writes-none : (sink : SinkView) (n : ℕ) → n ≡ 7 → WriteCauses sink sink n
writes-none sink n e = none-seven sink n e

pub writes-whole : (sink sink' : SinkView) (n : ℕ) → n ≡ 0 → WriteCauses sink sink' n
writes-whole sink sink' n e = record {
  sink_fault = λ z. absurd (omega arith);
  sink_stuck = λ z. absurd (omega arith);
  not_usage = λ z. omega arith;
  not_source = λ z. omega arith;
  not_tree = λ z. omega arith;
  not_keeper = λ z. omega arith;
}

pub writes-part : (sink sink' : SinkView) (cut : Cut) (n : ℕ) → n ≡ number_of (Broken cut) → may cut Telling ≡ true → (cut ≡ Sink → Rose sink.faults sink'.faults) → (cut ≡ Stalled → Rose sink.stalls sink'.stalls) → WriteCauses sink sink' n
writes-part sink sink' cut n e allowed fault stall = record {
  sink_fault = λ z. fault (broken-cut cut Sink (Broken cut) refl (only-cut (Broken cut) Sink (sym e ∙ z)));
  sink_stuck = λ z. stall (broken-cut cut Stalled (Broken cut) refl (only-cut (Broken cut) Stalled (sym e ∙ z)));
  not_usage = λ z. not-usage (Broken cut) (sym e ∙ z);
  not_source = λ z. not-allowed cut Source Telling refl allowed (broken-cut cut Source (Broken cut) refl (only-cut (Broken cut) Source (sym e ∙ z)));
  not_tree = λ z. not-allowed cut Tree Telling refl allowed (broken-cut cut Tree (Broken cut) refl (only-cut (Broken cut) Tree (sym e ∙ z)));
  not_keeper = λ z. not-allowed cut Keeper Telling refl allowed (broken-cut cut Keeper (Broken cut) refl (only-cut (Broken cut) Keeper (sym e ∙ z)));
}

-- ---- the statuses of a session over a sure source

pub load-none : (sink : SinkView) (keeper : KeeperView) (n : ℕ) → n ≡ 7 → LoadCauses sink sink keeper keeper n
load-none sink keeper n e = record {
  keeper_fault = λ z. absurd (omega arith);
  sink_fault = λ z. absurd (omega arith);
  sink_stuck = λ z. absurd (omega arith);
  not_usage = λ z. omega arith;
  not_source = λ z. omega arith;
  not_tree = λ z. omega arith;
}

pub load-causes : (source source' : SourceView) (sink sink' : SinkView) (keeper keeper' : KeeperView) (n : ℕ) → source'.faults ≡ 0 → Causes source source' sink sink' keeper keeper' n → LoadCauses sink sink' keeper keeper' n
load-causes source source' sink sink' keeper keeper' n sure c = record {
  keeper_fault = c.keeper_fault;
  sink_fault = c.sink_fault;
  sink_stuck = c.sink_stuck;
  not_usage = c.not_usage;
  not_source = λ z. (let r = c.source_fault z in omega arith);
  not_tree = c.not_tree;
}

-- ---- what words ask for

pub serves-session : (w : Words) (old new : World) (n : ℕ) → w.asked ≡ asked.Session → Session (options_of w false) old.source new.source old.sink new.sink old.keeper new.keeper old.kits new.kits n → Causes old.source new.source old.sink new.sink old.keeper new.keeper n → new.tree ≡ old.tree → Serves w old new n
serves-session w old new n e s c t = record {
  does = subst (λ z. Does w z old new n) (sym e) (s, t);
  causes = record { source_fault = c.source_fault; tree_fault = λ z. absurd (c.not_tree z); keeper_fault = c.keeper_fault; sink_fault = c.sink_fault; sink_stuck = c.sink_stuck };
  not_usage = c.not_usage;
}

pub serves-run : (w : Words) (k : Kind) (old new : World) (n : ℕ) → w.asked ≡ asked.Run k → Single (options_of w false) k old.sink new.sink old.tree new.tree old.keeper new.keeper old.kits new.kits n → RunCauses old.sink new.sink old.tree new.tree old.keeper new.keeper n → new.source ≡ old.source → Serves w old new n
serves-run w k old new n e s c t = record {
  does = subst (λ z. Does w z old new n) (sym e) (s, t);
  causes = record { source_fault = λ z. absurd (c.not_source z); tree_fault = c.tree_fault; keeper_fault = c.keeper_fault; sink_fault = c.sink_fault; sink_stuck = c.sink_stuck };
  not_usage = c.not_usage;
}

pub serves-gen : (w : Words) (count : ℕ) (old new : World) (n : ℕ) → w.asked ≡ asked.Gen count → Generates count old.sink new.sink n → WriteCauses old.sink new.sink n → new.source ≡ old.source → new.tree ≡ old.tree → new.keeper ≡ old.keeper → new.kits ≡ old.kits → Serves w old new n
serves-gen w count old new n e s c source tree keeper kits = record {
  does = subst (λ z. Does w z old new n) (sym e) (s, source, tree, keeper, kits);
  causes = record { source_fault = λ z. absurd (c.not_source z); tree_fault = λ z. absurd (c.not_tree z); keeper_fault = λ z. absurd (c.not_keeper z); sink_fault = c.sink_fault; sink_stuck = c.sink_stuck };
  not_usage = c.not_usage;
}

pub serves-load : (w : Words) (count : ℕ) (old new : World) (n : ℕ) → w.asked ≡ asked.Load count → Loads (options_of w true) count old.sink new.sink old.keeper new.keeper old.kits new.kits n → LoadCauses old.sink new.sink old.keeper new.keeper n → new.source ≡ old.source → new.tree ≡ old.tree → Serves w old new n
serves-load w count old new n e s c source tree = record {
  does = subst (λ z. Does w z old new n) (sym e) (s, source, tree);
  causes = record { source_fault = λ z. absurd (c.not_source z); tree_fault = λ z. absurd (c.not_tree z); keeper_fault = c.keeper_fault; sink_fault = c.sink_fault; sink_stuck = c.sink_stuck };
  not_usage = c.not_usage;
}

-- ---- where nothing rose

gen-done : (w : Words) (count : ℕ) (old new : World) (n : ℕ) → Generates count old.sink new.sink n → CallCauses old new n → AllSure old new → IsDone w (asked.Gen count) old new n ⊎ IsLeftOff n
gen-done w count old new n s c sure = go s.ends
  where
    go : WritesOut (chain_text count) s.out s.stop → IsDone w (asked.Gen count) old new n ⊎ IsLeftOff n
    go (whole p e) = inl (s.number ∙ ap number_of p, subst (λ z. Appends old.sink.held new.sink.held z) e s.says)
    go (part cut p allowed pre) = by cut (s.number ∙ ap number_of p) allowed
      where
        by : (cut : Cut) → n ≡ number_of (Broken cut) → may cut Telling ≡ true → IsDone w (asked.Gen count) old new n ⊎ IsLeftOff n
        by Source e t = absurd (sure.source_faults (c.source_fault e))
        by Tree e t = absurd (sure.tree_faults (c.tree_fault e))
        by Keeper e t = absurd (sure.keeper_faults_same (c.keeper_fault e))
        by Sink e t = absurd (sure.sink_faults (c.sink_fault e))
        by Memory e t = inr (inl e)
        by Stalled e t = absurd (sure.sink_stalls (c.sink_stuck e))
        by Circle e t = inr (inr e)

-- the causes of a session, from those of the call
session-causes : (o : ToolOptions) (a b : SourceView) (old new : World) (n : ℕ) → Session o a b old.sink new.sink old.keeper new.keeper old.kits new.kits n → (n ≡ 3 → Rose a.faults b.faults) → CallCauses old new n → (Rose old.tree.faults new.tree.faults → ⊥) → (n ≡ 2 → ⊥)
    → Causes a b old.sink new.sink old.keeper new.keeper n
session-causes o a b old new n s source c tree usage = record {
  source_fault = source;
  keeper_fault = c.keeper_fault;
  sink_fault = c.sink_fault;
  sink_stuck = c.sink_stuck;
  too_long = λ z. session-long o a b old.sink new.sink old.keeper new.keeper old.kits new.kits n s z;
  not_usage = usage;
  not_tree = λ z. tree (c.tree_fault z);
}

run-causes : (o : ToolOptions) (k : Kind) (old new : World) (n : ℕ) → Single o k old.sink new.sink old.tree new.tree old.keeper new.keeper old.kits new.kits n → CallCauses old new n → (Rose old.source.faults new.source.faults → ⊥) → (n ≡ 2 → ⊥)
    → RunCauses old.sink new.sink old.tree new.tree old.keeper new.keeper n
run-causes o k old new n s c source usage = record {
  tree_fault = c.tree_fault;
  keeper_fault = c.keeper_fault;
  sink_fault = c.sink_fault;
  sink_stuck = c.sink_stuck;
  not_usage = usage;
  not_source = λ z. source (c.source_fault z);
  not_refused = single-unrefused o k old.sink new.sink old.tree new.tree old.keeper new.keeper old.kits new.kits n s;
  not_long = single-short o k old.sink new.sink old.tree new.tree old.keeper new.keeper old.kits new.kits n s;
}

-- what is due was done, or the call was left off
pub complete-call : (w : Words) (old new : World) (n : ℕ) → Serves w old new n → AllSure old new → IsDone w w.asked old new n ⊎ IsLeftOff n
complete-call w old new n s sure = by w.asked s.does
  where
    nothing : (a b : SourceView) → (Rose a.faults b.faults → ⊥) → NothingRose a b old.sink new.sink old.keeper new.keeper
    nothing a b f = record { source_faults = f; sink_faults = sure.sink_faults; sink_stalls = sure.sink_stalls; keeper_faults_same = sure.keeper_faults_same }

    by : (a : Asked) → Does w a old new n → IsDone w a old new n ⊎ IsLeftOff n
    by asked.Session d = complete-of (options_of w false) old.source new.source old.sink new.sink old.keeper new.keeper old.kits new.kits n d.0
        (session-causes (options_of w false) old.source new.source old new n d.0 s.causes.source_fault s.causes sure.tree_faults s.not_usage) (nothing old.source new.source sure.source_faults)
    by (asked.Run k) d = done-of (options_of w false) k old.sink new.sink old.tree new.tree old.keeper new.keeper old.kits new.kits n d.0 (run-causes (options_of w false) k old new n d.0 s.causes sure.source_faults s.not_usage)
        (record { tree_faults = sure.tree_faults; sink_faults = sure.sink_faults; sink_stalls = sure.sink_stalls; keeper_faults_same = sure.keeper_faults_same })
    by (asked.Gen count) d = gen-done w count old new n d.0 s.causes sure
    by (asked.Load count) d =
        let l = d.0 in
        let source = sure_source (chain_text count) in
        let f : Rose source.faults l.after.faults → ⊥ = λ r. (let z = l.sure in omega arith) in
        elim (complete-of (options_of w true) source l.after old.sink new.sink old.keeper new.keeper old.kits new.kits n l.session
        (session-causes (options_of w true) source l.after old new n l.session (λ e. absurd (sure.source_faults (s.causes.source_fault e))) s.causes sure.tree_faults s.not_usage) (nothing source l.after f)) [
          | inl done ↦ inl (l.after, done (chain_text count) refl)
          | inr off ↦ inr off
        ]
