use Rattle.std.proofs.Common.{◌≡◌, ◌<◌, ◌≤◌, ℕ, List, length, slice_get, Some, refl, sym, ap, ◌∙◌, arith, rules}
use Rattle.vet_printf.specs.Searching.{has}
use Rattle.vet_printf.proofs.SearchLemmas.{contained, begins, goes_on, found, none_found}
use Rattle.vet_printf.proofs.searching.fails.Goals as goal

pub loop-next-init : goal.loop-next-init
loop-next-init c =
    begins c.args.t.now c.args.class c.args.of.0 (has c.new-met.result) c.new-list.result.items (has c.visit.new.met) c.visit.new.list.items
    c.requires.within (λ n. rw c.new-met.ensures.empty refl) c.new-list.ensures.items c.in_ok-visit.ensures

pub follow-requires-clause-within : goal.follow-requires-clause-within
follow-requires-clause-within c =
    let there : slice_get c.loop-next.list.items c.loop-next.next ≡ Some c.listed-here.result = ap (λ (l : List ℕ). slice_get l c.loop-next.next) (sym c.deref.ensures.value) ∙ c.listed-here.ensures in
    c.loop-next.invariant.within c.listed-here.result (contained c.loop-next.list.items c.listed-here.result c.loop-next.next there)

pub returns-then-fails : goal.returns-then-fails
returns-then-fails c =
    let there : slice_get c.loop-next.list.items c.loop-next.next ≡ Some c.listed-here.result = ap (λ (l : List ℕ). slice_get l c.loop-next.next) (sym c.deref.ensures.value) ∙ c.listed-here.ensures in
    found c.args.t.now c.args.class c.args.of.0 (has c.loop-next.met) c.loop-next.list.items c.loop-next.next c.loop-next.invariant c.listed-here.result there (c.in_ok-fails.ensures.step.failing c.if-fails.true)

pub loop-next-preserved : goal.loop-next-preserved
loop-next-preserved c =
    let low : c.loop-next.next < length c.loop-next.list.items = first_of (omega arith, search rules) in
    let there : slice_get c.loop-next.list.items c.loop-next.next ≡ Some c.listed-here.result = ap (λ (l : List ℕ). slice_get l c.loop-next.next) (sym c.deref.ensures.value) ∙ c.listed-here.ensures in
    goes_on c.args.t.now c.args.class c.args.of.0 (has c.loop-next.met) c.loop-next.list.items c.loop-next.next c.loop-next.invariant c.listed-here.result low there
    (has c.follow.new.met) c.follow.new.list.items c.in_ok-fails.ensures.grown (c.in_ok-fails.ensures.step.other c.if-fails.false)

pub returns : goal.returns
returns c =
    let end : length c.loop-next.list.items ≤ c.loop-next.next = first_of (omega arith, search rules) in
    none_found c.args.t.now c.args.class c.args.of.0 (has c.loop-next.met) c.loop-next.list.items c.loop-next.next c.loop-next.invariant end
