use Rattle.std.proofs.Common.{◌≡◌, ◌<◌, ◌≤◌, List, length, slice_get, Some, refl, sym, ap, ◌∙◌, subst, arith, rules}
use Rattle.type_model.specs.declared.term.TypeId.{TypeId}
use Rattle.export_text.specs.Searching.{AreVisited, has, known}
use Rattle.export_text.proofs.SearchLaws.{contained, begins, goes_on, all_reached}
use Rattle.export_text.proofs.reaching.reached.Goals as goal

pub loop-next-init : goal.loop-next-init
loop-next-init c =
    begins c.args.table.now (known c.args.follows c.args.table.now) c.args.path.now c.args.start.now (has c.new-met.result) c.new-list.result.items (has c.visit_all.new.met) c.visit_all.new.list.items
    c.requires.within (λ n. rw c.new-met.ensures.empty refl) c.new-list.ensures.items c.in_ok-visit_all.ensures

pub next_of-requires-clause-within : goal.next_of-requires-clause-within
next_of-requires-clause-within c =
    let there : slice_get c.loop-next.list.items c.loop-next.next ≡ Some c.type_listed-here.result =
    ap (λ (l : List TypeId). slice_get l c.loop-next.next) (sym c.deref.ensures.value) ∙ c.type_listed-here.ensures in
    c.loop-next.invariant.within c.type_listed-here.result (contained c.loop-next.list.items c.type_listed-here.result c.loop-next.next there)

pub loop-next-preserved : goal.loop-next-preserved
loop-next-preserved c =
    let low : c.loop-next.next < length c.loop-next.list.items = first_of (omega arith, search rules) in
    let there : slice_get c.loop-next.list.items c.loop-next.next ≡ Some c.type_listed-here.result = ap (λ (l : List TypeId). slice_get l c.loop-next.next) (sym c.deref.ensures.value) ∙ c.type_listed-here.ensures in
    goes_on c.args.table.now (known c.args.follows c.args.table.now) c.args.path.now c.args.start.now (has c.loop-next.met) c.loop-next.list.items c.loop-next.next c.loop-next.invariant c.type_listed-here.result low there
    c.in_ok-ids.ids.items c.in_ok-ids.ensures.are c.in_ok-ids.ensures.below
    (has c.visit_all-in-loop-next.new.met) c.visit_all-in-loop-next.new.list.items
    (subst (λ (l : List TypeId). AreVisited l (length l) (has c.loop-next.met) c.loop-next.list.items (has c.visit_all-in-loop-next.new.met) c.visit_all-in-loop-next.new.list.items) c.deref-in-loop-next.ensures.value c.in_ok-visit_all-2.ensures)

pub returns : goal.returns
returns c =
    let end : length c.loop-next.list.items ≤ c.loop-next.next = first_of (omega arith, search rules) in
    all_reached c.args.table.now (known c.args.follows c.args.table.now) c.args.path.now c.args.start.now (has c.loop-next.met) c.loop-next.list.items c.loop-next.next c.loop-next.invariant end
