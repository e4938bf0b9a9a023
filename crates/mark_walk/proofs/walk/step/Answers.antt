use Rattle.std.proofs.Common.{◌∙◌, ap}
use Rattle.gv_base.proofs.Lists.{push_left}
use Rattle.mark_walk.proofs.AskLaws.{goes_step}
use Rattle.mark_walk.proofs.WaitLemmas.{marked_waits, push_notes, push_less, push_waits, push_first, push_circle}
use Rattle.mark_walk.proofs.walk.step.Goals as goal

pub returns-in-None-clause-goes : goal.returns-in-None-clause-goes
returns-in-None-clause-goes g c =
    let k = g.K.Marking in
    let s = k.subject c.args.kit.now in
    goes_step (k.says s) (k.pends s) (k.lasts s) (k.IsItem s) (k.rule s) (k.so_far c.args.kit.now) (k.so_far c.judge.new.self) c.args.top c.in_ok-waits.waits c.in_ok-waits.ensures.steps

pub returns-in-None-clause-waits : goal.returns-in-None-clause-waits
returns-in-None-clause-waits g c none =
    let k = g.K.Marking in
    let s = k.subject c.args.kit.now in
    marked_waits (k.says s) (k.pends s) (k.lasts s) (k.IsItem s) (k.number s) (k.count s) (k.numbers s) (k.rule s) (k.so_far c.args.kit.now) (k.so_far c.judge.new.self)
    c.args.waiting.now.items c.args.top c.args.met.now.items c.requires.waits c.in_ok-waits.waits c.in-None.is c.in_ok-waits.ensures.steps

pub returns-in_ok-circle-in-Some-clause-goes : goal.returns-in_ok-circle-in-Some-clause-goes
returns-in_ok-circle-in-Some-clause-goes g c =
    let k = g.K.Marking in
    let s = k.subject c.args.kit.now in
    goes_step (k.says s) (k.pends s) (k.lasts s) (k.IsItem s) (k.rule s) (k.so_far c.args.kit.now) (k.so_far c.judge.new.self) c.args.top c.in_ok-waits.waits c.in_ok-waits.ensures.steps

pub returns-in_ok-circle-in-Some-clause-notes : goal.returns-in_ok-circle-in-Some-clause-notes
returns-in_ok-circle-in-Some-clause-notes g c none =
    let k = g.K.Marking in
    let s = k.subject c.args.kit.now in
    let e = c.in_ok-circle-in-Some.ensures in
    push_notes (k.says s) (k.pends s) (k.lasts s) (k.IsItem s) (k.number s) (k.count s) (k.numbers s) (k.rule s) (k.so_far c.args.kit.now) (k.so_far c.judge.new.self)
    c.args.waiting.now.items c.args.top c.args.met.now.items c.requires.waits c.in_ok-circle-in-Some.circle c.wait_for.new.waiting.items c.wait_for.new.met.items c.in-Some.other c.number-number.result (c.number-number.ensures ∙ ap (λ (x : k.Subject). k.number x c.in-Some.other) c.in_ok-waits.ensures.subject)
    e.again e.first e.waiting e.met c.in_ok-waits.waits c.in-Some.is c.in_ok-waits.ensures.steps none

pub returns-in_ok-circle-in-Some-clause-waits : goal.returns-in_ok-circle-in-Some-clause-waits
returns-in_ok-circle-in-Some-clause-waits g c none =
    let k = g.K.Marking in
    let s = k.subject c.args.kit.now in
    let e = c.in_ok-circle-in-Some.ensures in
    push_waits (k.says s) (k.pends s) (k.lasts s) (k.IsItem s) (k.number s) (k.count s) (k.numbers s) (k.rule s) (k.so_far c.args.kit.now) (k.so_far c.judge.new.self)
    c.args.waiting.now.items c.args.top c.args.met.now.items c.requires.waits c.in_ok-circle-in-Some.circle c.wait_for.new.waiting.items c.wait_for.new.met.items c.in-Some.other c.number-number.result (c.number-number.ensures ∙ ap (λ (x : k.Subject). k.number x c.in-Some.other) c.in_ok-waits.ensures.subject)
    e.again e.first e.waiting e.met c.in_ok-waits.waits c.in-Some.is c.in_ok-waits.ensures.steps none

pub returns-in_ok-circle-in-Some-clause-less : goal.returns-in_ok-circle-in-Some-clause-less
returns-in_ok-circle-in-Some-clause-less g c none =
    let k = g.K.Marking in
    let s = k.subject c.args.kit.now in
    let e = c.in_ok-circle-in-Some.ensures in
    push_less (k.says s) (k.pends s) (k.lasts s) (k.IsItem s) (k.number s) (k.count s) (k.numbers s) (k.rule s) (k.so_far c.args.kit.now) (k.so_far c.judge.new.self)
    c.args.waiting.now.items c.args.top c.args.met.now.items c.requires.waits c.in_ok-circle-in-Some.circle c.wait_for.new.waiting.items c.wait_for.new.met.items c.in-Some.other c.number-number.result (c.number-number.ensures ∙ ap (λ (x : k.Subject). k.number x c.in-Some.other) c.in_ok-waits.ensures.subject)
    e.again e.first e.waiting e.met c.in_ok-waits.waits c.in-Some.is c.in_ok-waits.ensures.steps none

pub returns-in_ok-circle-in-Some-clause-circle : goal.returns-in_ok-circle-in-Some-clause-circle
returns-in_ok-circle-in-Some-clause-circle g c =
    let k = g.K.Marking in
    let s = k.subject c.args.kit.now in
    let e = c.in_ok-circle-in-Some.ensures in
    push_circle (k.says s) (k.pends s) (k.lasts s) (k.IsItem s) (k.number s) (k.count s) (k.numbers s) (k.rule s) (k.so_far c.args.kit.now) (k.so_far c.judge.new.self)
    c.args.waiting.now.items c.args.top c.args.met.now.items c.requires.waits c.in_ok-circle-in-Some.circle c.wait_for.new.waiting.items c.wait_for.new.met.items c.in-Some.other c.number-number.result (c.number-number.ensures ∙ ap (λ (x : k.Subject). k.number x c.in-Some.other) c.in_ok-waits.ensures.subject)
    e.again e.first e.waiting e.met c.in_ok-waits.waits c.in-Some.is c.in_ok-waits.ensures.steps

pub returns-in-None-clause-first : goal.returns-in-None-clause-first
returns-in-None-clause-first g c none x at = push_left c.args.waiting.now.items c.args.top x 0 at

pub returns-in_ok-circle-in-Some-clause-first : goal.returns-in_ok-circle-in-Some-clause-first
returns-in_ok-circle-in-Some-clause-first g c none =
    let k = g.K.Marking in
    let s = k.subject c.args.kit.now in
    let e = c.in_ok-circle-in-Some.ensures in
    push_first (k.says s) (k.pends s) (k.lasts s) (k.IsItem s) (k.number s) (k.count s) (k.numbers s) (k.rule s) (k.so_far c.args.kit.now) (k.so_far c.judge.new.self)
    c.args.waiting.now.items c.args.top c.args.met.now.items c.requires.waits c.in_ok-circle-in-Some.circle c.wait_for.new.waiting.items c.wait_for.new.met.items c.in-Some.other c.number-number.result (c.number-number.ensures ∙ ap (λ (x : k.Subject). k.number x c.in-Some.other) c.in_ok-waits.ensures.subject)
    e.again e.first e.waiting e.met c.in_ok-waits.waits c.in-Some.is c.in_ok-waits.ensures.steps none
