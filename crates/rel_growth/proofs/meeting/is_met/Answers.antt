use Rattle.std.proofs.Common.{◌≡◌, ◌<◌, ◌≤◌, List, length, slice_get, Some, true, false, IsTrue, refl, sym, ap, ◌∙◌, subst, arith, rules}
use Rattle.type_model.specs.declared.term.TypeId.{TypeId}
use Rattle.rel_growth.specs.Meeting.{AreVisited, IsOther, has}
use Rattle.rel_growth.proofs.MeetingLemmas.{contained, begins, goes_on, met_name, all_pass}
use Rattle.rel_growth.proofs.meeting.is_met.Goals as goal

pub loop-at-init : goal.loop-at-init
loop-at-init c =
    begins (IsOther c.args.t.now c.args.of) c.args.t.now c.args.a (has c.new-met.result) c.new-list.result.items (has c.visit.new.met) c.visit.new.list.items
    c.requires.within (λ n. rw c.new-met.ensures.empty refl) c.new-list.ensures.items c.in_ok-visit.ensures

pub same-requires-clause-first : goal.same-requires-clause-first
same-requires-clause-first c =
    let there : slice_get c.loop-at.list.items c.loop-at.at ≡ Some c.type_listed-here.result =
    ap (λ (l : List TypeId). slice_get l c.loop-at.at) (sym c.deref.ensures.value) ∙ c.type_listed-here.ensures in
    c.loop-at.invariant.within c.type_listed-here.result (contained c.loop-at.list.items c.type_listed-here.result c.loop-at.at there)

pub held_types-requires-clause-within : goal.held_types-requires-clause-within
held_types-requires-clause-within c =
    let there : slice_get c.loop-at.list.items c.loop-at.at ≡ Some c.type_listed-here.result =
    ap (λ (l : List TypeId). slice_get l c.loop-at.at) (sym c.deref.ensures.value) ∙ c.type_listed-here.ensures in
    c.loop-at.invariant.within c.type_listed-here.result (contained c.loop-at.list.items c.type_listed-here.result c.loop-at.at there)

pub returns-then-same-clause-met : goal.returns-then-same-clause-met
returns-then-same-clause-met c name named told =
    let there : slice_get c.loop-at.list.items c.loop-at.at ≡ Some c.type_listed-here.result = ap (λ (l : List TypeId). slice_get l c.loop-at.at) (sym c.deref.ensures.value) ∙ c.type_listed-here.ensures in
    met_name (IsOther c.args.t.now c.args.of) c.args.t.now c.args.a (has c.loop-at.met) c.loop-at.list.items c.loop-at.at c.loop-at.invariant c.type_listed-here.result there name
    (c.same.ensures.one.0 c.if-same.true ∙ named)

pub loop-at-preserved : goal.loop-at-preserved
loop-at-preserved c =
    let low : c.loop-at.at < length c.loop-at.list.items = first_of (omega arith, search rules) in
    let there : slice_get c.loop-at.list.items c.loop-at.at ≡ Some c.type_listed-here.result = ap (λ (l : List TypeId). slice_get l c.loop-at.at) (sym c.deref.ensures.value) ∙ c.type_listed-here.ensures in
    goes_on (IsOther c.args.t.now c.args.of) c.args.t.now c.args.a (has c.loop-at.met) c.loop-at.list.items c.loop-at.at c.loop-at.invariant c.type_listed-here.result low there
    (λ one. absurd (let told = c.same.ensures.one.1 one in cc)) c.in_ok-parts.parts.items c.in_ok-parts.ensures.are c.in_ok-parts.ensures.below
    (has c.visit_all.new.met) c.visit_all.new.list.items
    (subst (λ (l : List TypeId). AreVisited l (length l) (has c.loop-at.met) c.loop-at.list.items (has c.visit_all.new.met) c.visit_all.new.list.items) c.deref-in-loop-at.ensures.value c.in_ok-visit_all.ensures)

pub returns-clause-only : goal.returns-clause-only
returns-clause-only c name named meets =
    let end : length c.loop-at.list.items ≤ c.loop-at.at = first_of (omega arith, search rules) in
    absurd (all_pass (IsOther c.args.t.now c.args.of) c.args.t.now c.args.a (has c.loop-at.met) c.loop-at.list.items c.loop-at.at c.loop-at.invariant end name meets (sym named))
