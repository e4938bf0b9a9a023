use Rattle.std.proofs.Common.{◌≡◌, ◌++◌, ◌∷◌, [], refl, sym, ◌∙◌, subst, ap, set, true, option_to_list, List, Option, Some}
use Rattle.mark_walk.specs.Asks.{Awaits}
use Rattle.mark_walk.specs.Marking.{Goes}
use Rattle.mark_walk.specs.Waiting.{Waits, IsCircle, IsFirst}
use Rattle.mark_walk.proofs.AskLaws.{goes_itself, goes_then}
use Rattle.mark_walk.proofs.WaitLemmas.{first_waits, first_noted, first_is, not_marked, circle_of}
use Rattle.mark_walk.proofs.walk.mark.Goals as goal

pub loop-next-init : goal.loop-next-init
loop-next-init g c =
    let k = g.K.Marking in
    let kit = c.args.kit.now in
    let s = k.subject kit in
    let walk = c.args.walk.now in
    let none = not_marked (k.so_far kit) c.args.item c.is_marked.result c.if-is_marked.false c.is_marked.ensures.1 in
    let met = c.note.ensures ∙ ap (λ n. set walk.met.items n true) c.number.ensures in
    record {
      state = c.requires.state;
      subject = refl;
      goes = goes_itself (k.says s) (k.rule s) (k.so_far kit);
      waits = first_waits (k.IsItem s) (k.number s) (k.count s) (k.numbers s) (λ x. Awaits (k.says s) (k.pends s) (k.so_far kit) (k.rule s x)) (k.so_far kit) walk c.args.item c.requires.rests c.requires.item none
          (walk.waiting.items ++ c.args.item ∷ []) refl c.note.new.met.items met;
      idle = λ never. absurd cc;
      first = λ x at. first_is walk.waiting.items c.args.item x c.requires.rests.idle at;
      noted = first_noted (k.IsItem s) (k.number s) (k.count s) (k.numbers s) (λ x. Awaits (k.says s) (k.pends s) (k.so_far kit) (k.rule s x)) (k.so_far kit) walk c.args.item c.requires.rests c.requires.item
          c.note.new.met.items met;
    }

pub step-requires-clause-waits : goal.step-requires-clause-waits
step-requires-clause-waits g c =
    let k = g.K.Marking in
    let kit = c.loop-next.kit in
    let was = c.loop-next.invariant in
    let s = k.subject kit in
    let here = subst (λ (x : k.Subject). Waits (k.IsItem x) (k.number x) (k.count x) (λ y. Awaits (k.says x) (k.pends x) (k.so_far kit) (k.rule x y)) (k.so_far kit)
    (c.loop-next.walk.waiting.items ++ option_to_list c.loop-next.next) c.loop-next.walk.met.items) (sym was.subject) was.waits in
    subst (λ (o : Option _). Waits (k.IsItem s) (k.number s) (k.count s) (λ y. Awaits (k.says s) (k.pends s) (k.so_far kit) (k.rule s y)) (k.so_far kit)
    (c.loop-next.walk.waiting.items ++ option_to_list o) c.loop-next.walk.met.items) c.in-Some.is here

pub loop-next-preserved : goal.loop-next-preserved
loop-next-preserved g c =
    let k = g.K.Marking in
    let s = k.subject c.args.kit.now in
    let was = c.loop-next.invariant in
    let made = c.in_ok-circle.ensures in
    let so = k.so_far c.loop-next.kit in
    let next = k.so_far c.step.new.kit in
    let waits = subst (λ (x : k.Subject). Waits (k.IsItem x) (k.number x) (k.count x) (λ y. Awaits (k.says x) (k.pends x) next (k.rule x y)) next c.step.new.waiting.items c.step.new.met.items)
    was.subject (made.waits c.in_default-circle.is) in
    record {
      state = made.state;
      subject = made.subject ∙ was.subject;
      goes = goes_then (k.says s) (k.rule s) (k.so_far c.args.kit.now) so next was.goes (subst (λ (x : k.Subject). Goes (k.says x) (k.rule x) so next) was.subject made.goes);
      waits = subst (λ l. Waits (k.IsItem s) (k.number s) (k.count s) (λ y. Awaits (k.says s) (k.pends s) next (k.rule s y)) next l c.step.new.met.items) c.last-next.ensures.items waits;
      idle = c.last-next.ensures.idle;
      first = λ x at. was.first x (subst (λ (o : Option _). IsFirst (c.loop-next.walk.waiting.items ++ option_to_list o) x) (sym c.in-Some.is)
          (made.first c.in_default-circle.is x (subst (λ (l : List _). IsFirst l x) (sym c.last-next.ensures.items) at)));
      noted = made.notes c.in_default-circle.is (k.number s c.args.item) was.noted;
    }

pub returns-in-Some-circle-clause-ends : goal.returns-in-Some-circle-clause-ends
returns-in-Some-circle-clause-ends g c =
    let k = g.K.Marking in
    let at = k.subject c.loop-next.kit in
    let first = subst (λ (o : Option _). (x : _) → IsFirst (c.loop-next.walk.waiting.items ++ option_to_list o) x → x ≡ c.args.item) c.in-Some.is c.loop-next.invariant.first in
    let made = circle_of (λ x. Awaits (k.says at) (k.pends at) (k.so_far c.step.new.kit) (k.rule at x)) (IsFirst (c.loop-next.walk.waiting.items ++ c.in-Some.top ∷ [])) c.args.item
    c.in_ok-circle.circle c.in-Some-circle.other c.in-Some-circle.is c.in_ok-circle.ensures.circle first in
    subst (λ (s : k.Subject). IsCircle (λ x. Awaits (k.says s) (k.pends s) (k.so_far c.step.new.kit) (k.rule s x)) (λ x. x ≡ c.args.item) (Some c.in-Some-circle.other)) c.loop-next.invariant.subject made
