use Rattle.std.proofs.Common.{Bool, arith, sym, subst, refl}
use Rattle.type_questions.specs.declared.reached.Found.{Found}
use Rattle.typed_marks.specs.declared.item.Item.{Item}
use Rattle.unit_read.specs.Subjects.{unit_of}
use Rattle.rule_words.specs.Scenes.{IfFound, type_in}
use Rattle.type_answers.specs.Coming.{GivesAt, FoundBy}
use Rattle.primary_rules.specs.declared.passing.Passing.{Passing}
use Rattle.primary_rules.specs.InCode.{passing_in, IsPassingOf}
use Rattle.primary_rules.specs.Selecting.{path_ask, pass_ask}
use Rattle.primary_rules.proofs.PassLemmas.{goes_on, goes_passed, goes_waits, goes_ended}
use Rattle.primary_rules.proofs.passing.passes.Goals as goal

pub loop-i-init : goal.loop-i-init
loop-i-init c = record { within = c.requires.within; rest = λ found is. is }

pub loop-i-preserved : goal.loop-i-preserved
loop-i-preserved c =
    let s = c.args.s.now in
    let u = c.args.u.now in
    let at = c.loop-i.at in
    let k = c.number_at-k.result in
    let gives = subst (FoundBy u s (passing_in s) (pass_ask (unit_of u) (type_in s at) k)) c.in-Is.is c.pass-found.ensures.is in
    let over = subst (λ (x : Found Passing Item). IfFound x (IsPassingOf s)) c.in-Is.is c.pass-found.ensures.over in
    goes_on u s (type_in s c.args.a) c.args.path.now c.loop-i.i at c.loop-i.invariant k c.in-LeadsTo.next c.number_at-k.ensures
    (subst (IsPassingOf s) c.in-LeadsTo.is over)
    (subst (λ (p : Passing). GivesAt u s (pass_ask (unit_of u) (type_in s at) k) (passing_in s p)) c.in-LeadsTo.is gives)

pub returns-in-Passed : goal.returns-in-Passed
unfolding path_ask
returns-in-Passed c =
    let s = c.args.s.now in
    let u = c.args.u.now in
    let at = c.loop-i.at in
    let k = c.number_at-k.result in
    let gives = subst (FoundBy u s (passing_in s) (pass_ask (unit_of u) (type_in s at) k)) c.in-Is.is c.pass-found.ensures.is in
    goes_passed u s (type_in s c.args.a) c.args.path.now c.loop-i.i at c.loop-i.invariant k c.in-Passed.pointer c.number_at-k.ensures
    (subst (λ (p : Passing). GivesAt u s (pass_ask (unit_of u) (type_in s at) k) (passing_in s p)) c.in-Passed.is gives)

pub returns-in-Wait : goal.returns-in-Wait
unfolding path_ask
returns-in-Wait c =
    let s = c.args.s.now in
    let u = c.args.u.now in
    let at = c.loop-i.at in
    let k = c.number_at-k.result in
    goes_waits u s (type_in s c.args.a) c.args.path.now c.loop-i.i at c.loop-i.invariant k c.in-Wait.item c.number_at-k.ensures
    (subst (FoundBy u s (passing_in s) (pass_ask (unit_of u) (type_in s at) k)) c.in-Wait.is c.pass-found.ensures.is)

pub returns : goal.returns
unfolding path_ask
returns c = goes_ended c.args.u.now c.args.s.now (type_in c.args.s.now c.args.a) c.args.path.now c.loop-i.i c.loop-i.at c.loop-i.invariant (omega arith)
