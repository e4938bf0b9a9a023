use Rattle.std.proofs.Common.{arith, ◌≡◌, ◌∙◌, ◌++◌, [], refl, sym, subst}
use Rattle.top_calls.specs.Desk.{IsHeld, greeting_of}
use Rattle.std.specs.Prelude.{sum_by}
use Rattle.folder.specs.Folders.{IsTold}
use Rattle.tree_runs.specs.Reports.{work}
use Rattle.top_calls.specs.Single.{RunEnded}
use Rattle.gv_base.proofs.Known.{Appends-none, Appends-trans}
use Rattle.top_calls.proofs.BeginLaws.{told, IsHeld-told}
use Rattle.top_calls.proofs.SingleLaws.{told_files, IsTold-files, run-unopened, run-greeted, run-unread}
use Rattle.top_calls.specs.declared.stop.Stop.{Stop}
use Rattle.top_calls.specs.declared.stop.Stop.TheVariants.{Broken}
use Rattle.top_calls.specs.declared.stop.Cut.{Cut}
use Rattle.top_calls.specs.declared.stop.Cut.TheVariants.{Source, Tree, Keeper, Sink, Stalled}
use Rattle.top_calls.specs.Ends.{Fetching, Greeting, Reading}
use Rattle.top_calls.proofs.KeepLaws.{not-allowed}
use Rattle.top_calls.proofs.single.single.Goals as goal

same-cut : (a b : Cut) → ◌≡◌ {A = Stop} (Broken a) (Broken b) → a ≡ b
same-cut a b e = cc

pub returns-in-Err-clause-runs : goal.returns-in-Err-clause-runs
returns-in-Err-clause-runs g c =
    let held = (g.K.Keeper.view c.args.keeper.now).kept in
    let tree = (g.T.Tree.view c.args.tree.now).files in
    record {
      kept = told held;
      found = IsHeld-told held;
      files = told_files tree;
      told = IsTold-files tree;
      out = [];
      says = Appends-none (g.O.Sink.view c.args.output.now).held;
      ended = run-unopened c.args.options.now c.args.kind (told held) (told_files tree) _ tree (g.K.Keeper.view c.open.new.keeper).kept c.in-Err.cut (c.in-Err.ensures.failed c.in-Err.cut refl) (subst (λ z. IsHeld z (told held)) (sym c.in-Err.ensures.kept) (IsHeld-told held)) (IsTold-files tree);
    }

pub returns-in-Err-say-clause-runs : goal.returns-in-Err-say-clause-runs
returns-in-Err-say-clause-runs g c =
    let f = c.in-Ok.ensures.finds in
    let tree = (g.T.Tree.view c.args.tree.now).files in
    let r = c.in-Err-say.ensures.says in
    record {
      kept = f.kept;
      found = f.holds;
      files = told_files tree;
      told = IsTold-files tree;
      out = r.said;
      says = r.says;
      ended = run-greeted c.args.options.now c.args.kind f.kept (told_files tree) _ tree (g.K.Keeper.view c.open.new.keeper).kept c.in-Err-say.cut c.in-Ok.opening.cache (greeting_of c.in-Ok.opening.ignored) r.said r.leaves.3 f.opens (let p = r.leaves.0 in (p.0, p.1 ∙ c.greeting.ensures)) (subst (λ z. IsHeld z f.kept) (sym c.in-Ok.ensures.kept) f.holds) (IsTold-files tree);
    }

pub returns-in-Err-read_files-clause-runs : goal.returns-in-Err-read_files-clause-runs
returns-in-Err-read_files-clause-runs g c =
    let f = c.in-Ok.ensures.finds in
    let tree = (g.T.Tree.view c.args.tree.now).files in
    let r = c.in-Ok-say.ensures.says in
    record {
      kept = f.kept;
      found = f.holds;
      files = told_files tree;
      told = IsTold-files tree;
      out = r.said;
      says = r.says;
      ended = run-unread c.args.options.now c.args.kind f.kept (told_files tree) _ (g.T.Tree.view c.read_files.new.tree).files (g.K.Keeper.view c.open.new.keeper).kept c.in-Err-read_files.cut c.in-Ok.opening.cache (greeting_of c.in-Ok.opening.ignored) r.said (c.in-Err-read_files.ensures.allowed c.in-Err-read_files.cut refl) f.opens (r.leaves ∙ c.greeting.ensures) (subst (λ z. IsHeld z f.kept) (sym c.in-Ok.ensures.kept) f.holds) (subst (λ z. IsTold z (told_files tree)) (sym c.in-Err-read_files.ensures.keeps) (IsTold-files tree));
    }

pub returns-in-Ok-read_files-clause-runs : goal.returns-in-Ok-read_files-clause-runs
returns-in-Ok-read_files-clause-runs g c =
    let f = c.in-Ok.ensures.finds in
    let r = c.in-Ok-say.ensures.says in
    let t = c.in-Ok-read_files.ensures.reads in
    let q = c.run_on.ensures.runs_on in
    record {
      kept = f.kept;
      found = f.holds;
      files = t.files;
      told = t.told;
      out = r.said ++ q.said;
      says = Appends-trans (g.O.Sink.view c.args.output.now).held (g.O.Sink.view c.say.new.output).held (g.O.Sink.view c.run_on.new.output).held r.said q.said r.says q.says;
      ended = subst (λ z. RunEnded c.args.options.now c.args.kind f.kept t.files (sum_by g.W.Kit.loads c.args.kits.now) (sum_by g.W.Kit.runs c.args.kits.now) (z ++ q.said) (g.T.Tree.view c.run_on.new.tree).files (g.K.Keeper.view c.run_on.new.keeper).kept (work (sum_by g.W.Kit.loads c.run_on.new.kits) (sum_by g.W.Kit.runs c.run_on.new.kits)) c.run_on.result) (sym (r.leaves ∙ c.greeting.ensures)) (q.goes f.kept t.files (greeting_of c.in-Ok.opening.ignored) f.opens (subst (λ z. IsHeld z f.kept) (sym c.in-Ok.ensures.kept) f.holds) (subst (λ z. IsTold z t.files) (sym c.in-Ok-read_files.ensures.keeps) t.told) t.read_is);
    }

pub returns-in-Err-clause-tree_fault : goal.returns-in-Err-clause-tree_fault
returns-in-Err-clause-tree_fault g c = record { later = omega arith; cause = λ e. absurd (not-allowed c.in-Err.cut Tree Fetching refl (c.in-Err.ensures.failed c.in-Err.cut refl) (same-cut c.in-Err.cut Tree e)) }

pub returns-in-Err-say-clause-tree_fault : goal.returns-in-Err-say-clause-tree_fault
returns-in-Err-say-clause-tree_fault g c = record { later = omega arith; cause = λ e. absurd (not-allowed c.in-Err-say.cut Tree Greeting refl c.in-Err-say.ensures.says.leaves.3 (same-cut c.in-Err-say.cut Tree e)) }

pub returns-in-Err-clause-sink_fault : goal.returns-in-Err-clause-sink_fault
returns-in-Err-clause-sink_fault g c = record { later = omega arith; cause = λ e. absurd (not-allowed c.in-Err.cut Sink Fetching refl (c.in-Err.ensures.failed c.in-Err.cut refl) (same-cut c.in-Err.cut Sink e)) }

pub returns-in-Err-clause-stalled : goal.returns-in-Err-clause-stalled
returns-in-Err-clause-stalled g c = record { later = omega arith; cause = λ e. absurd (not-allowed c.in-Err.cut Stalled Fetching refl (c.in-Err.ensures.failed c.in-Err.cut refl) (same-cut c.in-Err.cut Stalled e)) }

pub returns-in-Err-clause-not_source : goal.returns-in-Err-clause-not_source
returns-in-Err-clause-not_source g c = λ e. not-allowed c.in-Err.cut Source Fetching refl (c.in-Err.ensures.failed c.in-Err.cut refl) (same-cut c.in-Err.cut Source e)

pub returns-in-Err-read_files-clause-keeper_fault : goal.returns-in-Err-read_files-clause-keeper_fault
returns-in-Err-read_files-clause-keeper_fault g c = record { later = c.in-Ok.ensures.fault.later; cause = λ e. absurd (not-allowed c.in-Err-read_files.cut Keeper Reading refl (c.in-Err-read_files.ensures.allowed c.in-Err-read_files.cut refl) (same-cut c.in-Err-read_files.cut Keeper e)) }

pub returns-in-Err-read_files-clause-sink_fault : goal.returns-in-Err-read_files-clause-sink_fault
returns-in-Err-read_files-clause-sink_fault g c = record { later = c.in-Ok-say.ensures.sink_fault.later; cause = λ e. absurd (not-allowed c.in-Err-read_files.cut Sink Reading refl (c.in-Err-read_files.ensures.allowed c.in-Err-read_files.cut refl) (same-cut c.in-Err-read_files.cut Sink e)) }

pub returns-in-Err-read_files-clause-stalled : goal.returns-in-Err-read_files-clause-stalled
returns-in-Err-read_files-clause-stalled g c = record { later = c.in-Ok-say.ensures.stalled.later; cause = λ e. absurd (not-allowed c.in-Err-read_files.cut Stalled Reading refl (c.in-Err-read_files.ensures.allowed c.in-Err-read_files.cut refl) (same-cut c.in-Err-read_files.cut Stalled e)) }

pub returns-in-Err-read_files-clause-not_source : goal.returns-in-Err-read_files-clause-not_source
returns-in-Err-read_files-clause-not_source g c = λ e. not-allowed c.in-Err-read_files.cut Source Reading refl (c.in-Err-read_files.ensures.allowed c.in-Err-read_files.cut refl) (same-cut c.in-Err-read_files.cut Source e)
