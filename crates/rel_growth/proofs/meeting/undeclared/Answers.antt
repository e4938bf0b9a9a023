use Rattle.std.proofs.Common.{◌≡◌, ◌<◌, ◌≤◌, List, length, slice_get, Some, refl, sym, ap, ◌∙◌, subst, arith, rules}
use Rattle.type_model.specs.declared.term.TypeId.{TypeId}
use Rattle.rel_growth.specs.Meeting.{AreVisited, IsKnownIn, has}
use Rattle.rel_growth.proofs.MeetingLemmas.{contained, begins, goes_on, met_missing, all_declared}
use Rattle.rel_growth.proofs.meeting.undeclared.Goals as goal

pub loop-next-init : goal.loop-next-init
loop-next-init c =
    begins (IsKnownIn c.args.t.now) c.args.t.now c.args.a (has c.new-met.result) c.new-list.result.items (has c.visit.new.met) c.visit.new.list.items
    c.requires.within (λ n. rw c.new-met.ensures.empty refl) c.new-list.ensures.items c.in_ok-visit.ensures

pub is_missing-requires-clause-within : goal.is_missing-requires-clause-within
is_missing-requires-clause-within c =
    let there : slice_get c.loop-next.list.items c.loop-next.next ≡ Some c.type_listed-here.result =
    ap (λ (l : List TypeId). slice_get l c.loop-next.next) (sym c.deref.ensures.value) ∙ c.type_listed-here.ensures in
    c.loop-next.invariant.within c.type_listed-here.result (contained c.loop-next.list.items c.type_listed-here.result c.loop-next.next there)

pub held_types-requires-clause-within : goal.held_types-requires-clause-within
held_types-requires-clause-within c =
    let there : slice_get c.loop-next.list.items c.loop-next.next ≡ Some c.type_listed-here.result =
    ap (λ (l : List TypeId). slice_get l c.loop-next.next) (sym c.deref.ensures.value) ∙ c.type_listed-here.ensures in
    c.loop-next.invariant.within c.type_listed-here.result (contained c.loop-next.list.items c.type_listed-here.result c.loop-next.next there)

pub returns-then-is_missing : goal.returns-then-is_missing
returns-then-is_missing c =
    let there : slice_get c.loop-next.list.items c.loop-next.next ≡ Some c.type_listed-here.result = ap (λ (l : List TypeId). slice_get l c.loop-next.next) (sym c.deref.ensures.value) ∙ c.type_listed-here.ensures in
    met_missing c.args.t.now c.args.a (has c.loop-next.met) c.loop-next.list.items c.loop-next.next c.loop-next.invariant c.type_listed-here.result there
    (c.is_missing.ensures.missing c.if-is_missing.true)

pub loop-next-preserved : goal.loop-next-preserved
loop-next-preserved c =
    let low : c.loop-next.next < length c.loop-next.list.items = first_of (omega arith, search rules) in
    let there : slice_get c.loop-next.list.items c.loop-next.next ≡ Some c.type_listed-here.result = ap (λ (l : List TypeId). slice_get l c.loop-next.next) (sym c.deref.ensures.value) ∙ c.type_listed-here.ensures in
    goes_on (IsKnownIn c.args.t.now) c.args.t.now c.args.a (has c.loop-next.met) c.loop-next.list.items c.loop-next.next c.loop-next.invariant c.type_listed-here.result low there
    (c.is_missing.ensures.known c.if-is_missing.false) c.in_ok-ids.ids.items c.in_ok-ids.ensures.are c.in_ok-ids.ensures.below
    (has c.visit_all.new.met) c.visit_all.new.list.items
    (subst (λ (l : List TypeId). AreVisited l (length l) (has c.loop-next.met) c.loop-next.list.items (has c.visit_all.new.met) c.visit_all.new.list.items) c.deref-in-loop-next.ensures.value c.in_ok-visit_all.ensures)

pub returns : goal.returns
returns c =
    let end : length c.loop-next.list.items ≤ c.loop-next.next = first_of (omega arith, search rules) in
    all_declared c.args.t.now c.args.a (has c.loop-next.met) c.loop-next.list.items c.loop-next.next c.loop-next.invariant end
