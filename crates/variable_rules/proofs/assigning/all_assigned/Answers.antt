use Rattle.std.proofs.Common.{◌+◌, Bool, sym, ◌∙◌, subst, arith}
use Rattle.type_questions.specs.declared.reached.Reached.{Reached}
use Rattle.type_answers.specs.Coming.{FoundBy}
use Rattle.rule_words.specs.Scenes.{type_in}
use Rattle.variable_rules.specs.InCode.{types_of}
use Rattle.variable_rules.specs.Sharing.{all_assigned}
use Rattle.variable_rules.proofs.SharingLemmas.{rests_all, ask_at, goes_on, ends, stays, all_hold}
use Rattle.variable_rules.proofs.assigning.all_assigned.Goals as goal

pub loop-i-init : goal.loop-i-init
loop-i-init c = let s = c.args.s.now in rests_all c.args.u.now s (all_assigned c.args.methods (type_in s c.args.to) (types_of s c.args.list.now))

pub loop-i-preserved : goal.loop-i-preserved
loop-i-preserved c =
    let u = c.args.u.now in
    let s = c.args.s.now in
    let of = c.listed-of.result in
    goes_on u s c.args.methods c.args.to c.args.list.now c.loop-i.i of c.listed-of.ensures.is (all_assigned c.args.methods (type_in s c.args.to) (types_of s c.args.list.now)) c.loop-i.invariant
    c.in-Is.told (subst (FoundBy u s (λ (x : Reached Bool). x) (ask_at s c.args.methods of c.args.to)) c.in-Is.is c.in_ok-found.ensures) (sym c.holds.ensures ∙ c.if-not-holds.false)

pub returns-then-not-holds : goal.returns-then-not-holds
returns-then-not-holds c =
    let u = c.args.u.now in
    let s = c.args.s.now in
    let of = c.listed-of.result in
    ends u s c.args.methods c.args.to c.args.list.now c.loop-i.i of c.listed-of.ensures.is (all_assigned c.args.methods (type_in s c.args.to) (types_of s c.args.list.now)) c.loop-i.invariant
    c.in-Is.told (subst (FoundBy u s (λ (x : Reached Bool). x) (ask_at s c.args.methods of c.args.to)) c.in-Is.is c.in_ok-found.ensures) (sym c.holds.ensures ∙ c.if-not-holds.true)

pub returns-in-Wait : goal.returns-in-Wait
returns-in-Wait c =
    let u = c.args.u.now in
    let s = c.args.s.now in
    let of = c.listed-of.result in
    stays u s c.args.methods c.args.to c.args.list.now c.loop-i.i of c.listed-of.ensures.is (all_assigned c.args.methods (type_in s c.args.to) (types_of s c.args.list.now)) c.loop-i.invariant
    c.in-Wait.item (subst (FoundBy u s (λ (x : Reached Bool). x) (ask_at s c.args.methods of c.args.to)) c.in-Wait.is c.in_ok-found.ensures)

pub returns : goal.returns
returns c =
    let u = c.args.u.now in
    let s = c.args.s.now in
    all_hold u s c.args.methods c.args.to c.args.list.now c.loop-i.i (all_assigned c.args.methods (type_in s c.args.to) (types_of s c.args.list.now)) (omega arith) c.loop-i.invariant
