use Rattle.std.proofs.Common.{◌∙◌, ◌^◌, sym}
use Rattle.top_calls.proofs.RunsLaws.{RunLaws}
use Rattle.top_calls.proofs.RunHeadlineLaws.{Single-of, RunCauses-of, run-lawful-of, done-of}
use Rattle.top_calls.proofs.WorkersLaws.{did-first, others-stay, taken}
use Rattle.top_calls.proofs.call.one_run.Goals as goal

pub returns-clause-single : goal.returns-clause-single
returns-clause-single g c =
    let law : RunLaws = (let l = c.one_report_of_a_tree.ensures in record { report = l.report; cache = l.cache; fresh = l.fresh; honest = l.honest; text = l.text; value = l.value }) in
    let e = c.split_at_mut-crew.ensures in
    let now = taken c.args.options.now.workers c.single.new.kits c.split_at_mut-crew.result.1.now (c.single.ensures.size ∙ e.front_len) in
    rw (now, sym e.front) (Single-of law _ _ _ _ _ _ _ _ _ _ c.single.result _ c.single.ensures.runs c.number.ensures)

pub returns-clause-causes : goal.returns-clause-causes
returns-clause-causes g c =
    let e = c.single.ensures in
    RunCauses-of c.args.options.now c.args.kind _ _ _ _ _ _ _ _ c.single.result _ e.runs c.number.ensures e.tree_fault.cause e.keeper_fault.cause e.sink_fault.cause e.stalled.cause e.not_source

pub returns-clause-lawful : goal.returns-clause-lawful
returns-clause-lawful g c =
    let law : RunLaws = (let l = c.one_report_of_a_tree.ensures in record { report = l.report; cache = l.cache; fresh = l.fresh; honest = l.honest; text = l.text; value = l.value }) in
    run-lawful-of law c.args.options.now c.args.kind _ _ _ _ _ _ _ _ c.single.result c.single.ensures.runs

pub returns-clause-complete : goal.returns-clause-complete
returns-clause-complete g c = λ w.
    let law : RunLaws = (let l = c.one_report_of_a_tree.ensures in record { report = l.report; cache = l.cache; fresh = l.fresh; honest = l.honest; text = l.text; value = l.value }) in
    let r = c.single.ensures in
    let e = c.split_at_mut-crew.ensures in
    let now = taken c.args.options.now.workers c.single.new.kits c.split_at_mut-crew.result.1.now (r.size ∙ e.front_len) in
    rw (now, sym e.front) (done-of c.args.options.now c.args.kind _ _ _ _ _ _ _ _ _ (Single-of law _ _ _ _ _ _ _ _ _ _ c.single.result _ r.runs c.number.ensures)
    (RunCauses-of c.args.options.now c.args.kind _ _ _ _ _ _ _ _ c.single.result _ r.runs c.number.ensures r.tree_fault.cause r.keeper_fault.cause r.sink_fault.cause r.stalled.cause r.not_source) w)

pub returns-clause-others : goal.returns-clause-others
returns-clause-others g c =
    let e = c.split_at_mut-crew.ensures in
    others-stay c.args.options.now.workers c.args.kits.now c.split_at_mut-crew.result.0.now c.split_at_mut-crew.result.1.now c.single.new.kits e.value e.front_len c.single.ensures.size

pub single-requires-clause-room : goal.single-requires-clause-room
single-requires-clause-room g c = λ κs _. did-first g.W.Kit.loads g.W.Kit.runs (2 ^ 61) c.args.kits.now c.split_at_mut-crew.result.0.now c.split_at_mut-crew.result.1.now c.split_at_mut-crew.ensures.value c.requires.room
