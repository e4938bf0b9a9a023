use Rattle.std.proofs.Common.{arith, refl, ap, ◌≡◌, ◌∙◌, ◌<◌, length, [], sym}
use Rattle.std.specs.Prelude.{Err, sum_by}
use Rattle.tree_runs.specs.Reports.{work}
use Rattle.tree_runs.proofs.StillLaws.{still}
use Rattle.top_calls.proofs.RunsLaws.{RunLaws}
use Rattle.top_calls.specs.declared.stop.Stop.{Stop}
use Rattle.top_calls.specs.declared.stop.Stop.TheVariants.{Broken}
use Rattle.top_calls.specs.declared.stop.Cut.{Cut}
use Rattle.top_calls.specs.declared.stop.Cut.TheVariants.{Source, Tree, Keeper, Sink, Memory, Stalled, Circle}
use Rattle.top_calls.specs.Deeds.{task_of}
use Rattle.top_calls.specs.Ends.{Writing, Storing}
use Rattle.gv_base.proofs.Known.{Appends-none}
use Rattle.top_calls.proofs.KeepLaws.{not-allowed}
use Rattle.top_calls.proofs.SingleLaws.{Done, ended-running, ended-writing, ended-telling, ended-storing, ended-still, ended-whole}
use Rattle.top_calls.proofs.single.run_on.Goals as goal

same-cut : (a b : Cut) → ◌≡◌ {A = Stop} (Broken a) (Broken b) → a ≡ b
same-cut a b e = cc

pub returns-in-Err-NoMemory-clause-runs_on : goal.returns-in-Err-NoMemory-clause-runs_on
returns-in-Err-NoMemory-clause-runs_on g c =
    let law : RunLaws = (let l = c.one_report_of_a_tree.ensures in record { report = l.report; cache = l.cache; fresh = l.fresh; honest = l.honest; text = l.text; value = l.value }) in
    record {
      said = [];
      says = Appends-none (g.O.Sink.view c.args.output.now).held;
      goes = ended-running law (rw c.task_of-task.ensures at c.in-Err-NoMemory.ensures.most) Memory refl refl tt (g.T.Tree.view c.args.tree.now).files (g.K.Keeper.view c.args.keeper.now).kept;
    }

pub returns-in-Err-Stuck-clause-runs_on : goal.returns-in-Err-Stuck-clause-runs_on
returns-in-Err-Stuck-clause-runs_on g c =
    let law : RunLaws = (let l = c.one_report_of_a_tree.ensures in record { report = l.report; cache = l.cache; fresh = l.fresh; honest = l.honest; text = l.text; value = l.value }) in
    record {
      said = [];
      says = Appends-none (g.O.Sink.view c.args.output.now).held;
      goes = ended-running law (rw c.task_of-task.ensures at c.in-Err-Stuck.ensures.most) Circle refl refl (λ h. c.in-Err-Stuck.ensures.circle h (ap Err c.in-Err-Stuck.field-0-is)) (g.T.Tree.view c.args.tree.now).files (g.K.Keeper.view c.args.keeper.now).kept;
    }

pub returns-in-Err-clause-runs_on : goal.returns-in-Err-clause-runs_on
returns-in-Err-clause-runs_on g c =
    let law : RunLaws = (let l = c.one_report_of_a_tree.ensures in record { report = l.report; cache = l.cache; fresh = l.fresh; honest = l.honest; text = l.text; value = l.value }) in
    let r = c.in-Ok.ensures in
    let d : Done c.args.options.now c.args.kind c.args.files.now c.args.cache.now c.run.new.cache c.in-Ok.report (work (sum_by g.W.Kit.loads c.args.kits.now) (sum_by g.W.Kit.runs c.args.kits.now)) (work (sum_by g.W.Kit.loads c.run.new.kits) (sum_by g.W.Kit.runs c.run.new.kits)) = record { reports = rw c.task_of-task.ensures at r.report; spends = r.exact } in
    record {
      said = [];
      says = Appends-none (g.O.Sink.view c.args.output.now).held;
      goes = ended-writing law d (r.text) c.in-Err.cut (c.in-Err.ensures.allowed c.in-Err.cut refl) (g.T.Tree.view c.args.tree.now).files (g.T.Tree.view c.write_changed.new.tree).files (rw c.as_slice.ensures at c.in-Err.ensures.writes) (g.K.Keeper.view c.args.keeper.now).kept;
    }

pub returns-in-Err-clause-keeper_fault : goal.returns-in-Err-clause-keeper_fault
returns-in-Err-clause-keeper_fault g c = record { later = omega arith; cause = λ e. absurd (not-allowed c.in-Err.cut Keeper Writing refl (c.in-Err.ensures.allowed c.in-Err.cut refl) (same-cut c.in-Err.cut Keeper e)) }

pub returns-in-Err-clause-sink_fault : goal.returns-in-Err-clause-sink_fault
returns-in-Err-clause-sink_fault g c = record { later = omega arith; cause = λ e. absurd (not-allowed c.in-Err.cut Sink Writing refl (c.in-Err.ensures.allowed c.in-Err.cut refl) (same-cut c.in-Err.cut Sink e)) }

pub returns-in-Err-clause-stalled : goal.returns-in-Err-clause-stalled
returns-in-Err-clause-stalled g c = record { later = omega arith; cause = λ e. absurd (not-allowed c.in-Err.cut Stalled Writing refl (c.in-Err.ensures.allowed c.in-Err.cut refl) (same-cut c.in-Err.cut Stalled e)) }

pub returns-in-Err-clause-not_source : goal.returns-in-Err-clause-not_source
returns-in-Err-clause-not_source g c = λ e. not-allowed c.in-Err.cut Source Writing refl (c.in-Err.ensures.allowed c.in-Err.cut refl) (same-cut c.in-Err.cut Source e)

pub returns-in-Err-say-clause-runs_on : goal.returns-in-Err-say-clause-runs_on
returns-in-Err-say-clause-runs_on g c =
    let law : RunLaws = (let l = c.one_report_of_a_tree.ensures in record { report = l.report; cache = l.cache; fresh = l.fresh; honest = l.honest; text = l.text; value = l.value }) in
    let r = c.in-Ok.ensures in
    let d : Done c.args.options.now c.args.kind c.args.files.now c.args.cache.now c.run.new.cache c.in-Ok.report (work (sum_by g.W.Kit.loads c.args.kits.now) (sum_by g.W.Kit.runs c.args.kits.now)) (work (sum_by g.W.Kit.loads c.run.new.kits) (sum_by g.W.Kit.runs c.run.new.kits)) = record { reports = rw c.task_of-task.ensures at r.report; spends = r.exact } in
    let s = c.in-Err-say.ensures.says in
    record {
      said = s.said;
      says = s.says;
      goes = ended-telling law d (r.text) c.in-Err-say.cut s.leaves.1 s.said (let p = s.leaves.0 in (p.0, p.1 ∙ c.as_slice-in-Ok-write_changed.ensures)) (g.T.Tree.view c.args.tree.now).files (g.T.Tree.view c.write_changed.new.tree).files (rw c.as_slice.ensures at c.in-Ok-write_changed.ensures.writes) (g.K.Keeper.view c.args.keeper.now).kept;
    }

pub returns-in-Err-keep-clause-runs_on : goal.returns-in-Err-keep-clause-runs_on
returns-in-Err-keep-clause-runs_on g c =
    let law : RunLaws = (let l = c.one_report_of_a_tree.ensures in record { report = l.report; cache = l.cache; fresh = l.fresh; honest = l.honest; text = l.text; value = l.value }) in
    let r = c.in-Ok.ensures in
    let d : Done c.args.options.now c.args.kind c.args.files.now c.args.cache.now c.run.new.cache c.in-Ok.report (work (sum_by g.W.Kit.loads c.args.kits.now) (sum_by g.W.Kit.runs c.args.kits.now)) (work (sum_by g.W.Kit.loads c.run.new.kits) (sum_by g.W.Kit.runs c.run.new.kits)) = record { reports = rw c.task_of-task.ensures at r.report; spends = r.exact } in
    let s = c.in-Ok-say.ensures.says in
    let f = c.in-Err-keep.ensures.failed c.in-Err-keep.cut refl in
    record {
      said = s.said;
      says = s.says;
      goes = ended-storing law d (r.text) c.in-Err-keep.cut f.allowed s.said (s.leaves ∙ c.as_slice-in-Ok-write_changed.ensures) (g.T.Tree.view c.args.tree.now).files (g.T.Tree.view c.write_changed.new.tree).files (rw c.as_slice.ensures at c.in-Ok-write_changed.ensures.writes) (g.K.Keeper.view c.args.keeper.now).kept (g.K.Keeper.view c.keep.new.keeper).kept f.either;
    }

pub returns-clause-runs_on : goal.returns-clause-runs_on
returns-clause-runs_on g c =
    let law : RunLaws = (let l = c.one_report_of_a_tree.ensures in record { report = l.report; cache = l.cache; fresh = l.fresh; honest = l.honest; text = l.text; value = l.value }) in
    let r = c.in-Ok.ensures in
    let d : Done c.args.options.now c.args.kind c.args.files.now c.args.cache.now c.run.new.cache c.in-Ok.report (work (sum_by g.W.Kit.loads c.args.kits.now) (sum_by g.W.Kit.runs c.args.kits.now)) (work (sum_by g.W.Kit.loads c.run.new.kits) (sum_by g.W.Kit.runs c.run.new.kits)) = record { reports = rw c.task_of-task.ensures at r.report; spends = r.exact } in
    let s = c.in-Ok-say.ensures.says in
    record {
      said = s.said;
      says = s.says;
      goes = ended-whole law d s.said (s.leaves ∙ c.as_slice-in-Ok-write_changed.ensures) (g.T.Tree.view c.args.tree.now).files (g.T.Tree.view c.write_changed.new.tree).files (rw c.as_slice.ensures at c.in-Ok-write_changed.ensures.writes) (g.K.Keeper.view c.args.keeper.now).kept (g.K.Keeper.view c.keep.new.keeper).kept c.in-Ok-keep.ensures.kept;
    }

pub returns-then-is_still-clause-runs_on : goal.returns-then-is_still-clause-runs_on
returns-then-is_still-clause-runs_on g c =
    let law : RunLaws = (let l = c.one_report_of_a_tree.ensures in record { report = l.report; cache = l.cache; fresh = l.fresh; honest = l.honest; text = l.text; value = l.value }) in
    let r = c.in-Ok.ensures in
    let d : Done c.args.options.now c.args.kind c.args.files.now c.args.cache.now c.run.new.cache c.in-Ok.report (work (sum_by g.W.Kit.loads c.args.kits.now) (sum_by g.W.Kit.runs c.args.kits.now)) (work (sum_by g.W.Kit.loads c.run.new.kits) (sum_by g.W.Kit.runs c.run.new.kits)) = record { reports = rw c.task_of-task.ensures at r.report; spends = r.exact } in
    let s = c.in-Ok-say.ensures.says in
    let test = c.is_still.ensures.0 c.if-is_still.true in
    let before = c.count-before.ensures in
    let some : 0 < length c.args.cache.now = omega (arith, test.0, before) in
    record {
      said = s.said;
      says = s.says;
      goes = ended-still law d (λ h. still c.args.files.now (task_of c.args.options.now c.args.kind) c.args.cache.now c.run.new.cache c.in-Ok.report (d.reports h) test.2 (sym c.count-after.ensures ∙ test.1 ∙ before)) some s.said (s.leaves ∙ c.as_slice-in-Ok-write_changed.ensures) (g.T.Tree.view c.args.tree.now).files (g.T.Tree.view c.write_changed.new.tree).files (rw c.as_slice.ensures at c.in-Ok-write_changed.ensures.writes) (g.K.Keeper.view c.args.keeper.now).kept;
    }

pub returns-in-Err-keep-clause-tree_fault : goal.returns-in-Err-keep-clause-tree_fault
returns-in-Err-keep-clause-tree_fault g c = record { later = c.in-Ok-write_changed.ensures.fault.later; cause = λ e. absurd (not-allowed c.in-Err-keep.cut Tree Storing refl (c.in-Err-keep.ensures.failed c.in-Err-keep.cut refl).allowed (same-cut c.in-Err-keep.cut Tree e)) }

pub returns-in-Err-keep-clause-sink_fault : goal.returns-in-Err-keep-clause-sink_fault
returns-in-Err-keep-clause-sink_fault g c = record { later = c.in-Ok-say.ensures.sink_fault.later; cause = λ e. absurd (not-allowed c.in-Err-keep.cut Sink Storing refl (c.in-Err-keep.ensures.failed c.in-Err-keep.cut refl).allowed (same-cut c.in-Err-keep.cut Sink e)) }

pub returns-in-Err-keep-clause-stalled : goal.returns-in-Err-keep-clause-stalled
returns-in-Err-keep-clause-stalled g c = record { later = c.in-Ok-say.ensures.stalled.later; cause = λ e. absurd (not-allowed c.in-Err-keep.cut Stalled Storing refl (c.in-Err-keep.ensures.failed c.in-Err-keep.cut refl).allowed (same-cut c.in-Err-keep.cut Stalled e)) }

pub returns-in-Err-keep-clause-not_source : goal.returns-in-Err-keep-clause-not_source
returns-in-Err-keep-clause-not_source g c = λ e. not-allowed c.in-Err-keep.cut Source Storing refl (c.in-Err-keep.ensures.failed c.in-Err-keep.cut refl).allowed (same-cut c.in-Err-keep.cut Source e)

pub run-requires-clause-loads : goal.run-requires-clause-loads
run-requires-clause-loads g c = λ κs _ k kit e. (let h = c.requires.room k kit e in omega (arith, h.0))

pub run-requires-clause-runs : goal.run-requires-clause-runs
run-requires-clause-runs g c = λ κs _ k kit e. (let h = c.requires.room k kit e in omega (arith, h.1))
