use Rattle.std.proofs.Common.{◌∙◌, ◌^◌, sym}
use Rattle.top_calls.proofs.RunsLaws.{RunLaws}
use Rattle.top_calls.proofs.HeadlineLaws.{Session-of, Causes-of, lawful-of, complete-for}
use Rattle.top_calls.proofs.WorkersLaws.{did-first, others-stay, taken}
use Rattle.top_calls.proofs.call.session.Goals as goal

pub returns-clause-session : goal.returns-clause-session
returns-clause-session g c =
    let law : RunLaws = (let l = c.one_report_of_a_tree.ensures in record { report = l.report; cache = l.cache; fresh = l.fresh; honest = l.honest; text = l.text; value = l.value }) in
    let e = c.split_at_mut-crew.ensures in
    let now = taken c.args.options.now.workers c.run.new.kits c.split_at_mut-crew.result.1.now (c.run.ensures.size ∙ e.front_len) in
    rw (now, sym e.front) (Session-of law _ _ _ _ _ _ _ _ _ c.run.result _ c.run.ensures.runs c.number.ensures)

pub returns-clause-causes : goal.returns-clause-causes
returns-clause-causes g c =
    let e = c.run.ensures in
    Causes-of c.args.options.now _ _ _ _ _ _ _ _ c.run.result _ e.runs c.number.ensures e.source_fault.cause e.keeper_fault.cause e.sink_fault.cause e.stalled.cause

pub returns-clause-lawful : goal.returns-clause-lawful
returns-clause-lawful g c =
    let law : RunLaws = (let l = c.one_report_of_a_tree.ensures in record { report = l.report; cache = l.cache; fresh = l.fresh; honest = l.honest; text = l.text; value = l.value }) in
    lawful-of law c.args.options.now _ _ _ _ _ _ _ _ c.run.result c.run.ensures.runs

pub returns-clause-complete : goal.returns-clause-complete
returns-clause-complete g c = λ script given w.
    let law : RunLaws = (let l = c.one_report_of_a_tree.ensures in record { report = l.report; cache = l.cache; fresh = l.fresh; honest = l.honest; text = l.text; value = l.value }) in
    let r = c.run.ensures in
    let e = c.split_at_mut-crew.ensures in
    let now = taken c.args.options.now.workers c.run.new.kits c.split_at_mut-crew.result.1.now (r.size ∙ e.front_len) in
    rw (now, sym e.front) (complete-for c.args.options.now _ _ _ _ _ _ _ _ _ script (Session-of law _ _ _ _ _ _ _ _ _ c.run.result _ r.runs c.number.ensures)
    (Causes-of c.args.options.now _ _ _ _ _ _ _ _ c.run.result _ r.runs c.number.ensures r.source_fault.cause r.keeper_fault.cause r.sink_fault.cause r.stalled.cause) given w)

pub returns-clause-others : goal.returns-clause-others
returns-clause-others g c =
    let e = c.split_at_mut-crew.ensures in
    others-stay c.args.options.now.workers c.args.kits.now c.split_at_mut-crew.result.0.now c.split_at_mut-crew.result.1.now c.run.new.kits e.value e.front_len c.run.ensures.size

pub run-requires-clause-room : goal.run-requires-clause-room
run-requires-clause-room g c = λ κs _. did-first g.W.Kit.loads g.W.Kit.runs (2 ^ 61) c.args.kits.now c.split_at_mut-crew.result.0.now c.split_at_mut-crew.result.1.now c.split_at_mut-crew.ensures.value c.requires.room
