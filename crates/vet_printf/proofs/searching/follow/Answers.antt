use Rattle.std.proofs.Common.{List, ℕ, length, subst}
use Rattle.vet_printf.specs.Searching.{AreVisited, has}
use Rattle.vet_printf.proofs.SearchLemmas.{grown_nothing, grown_parts, step_fit, step_alone, step_parts}
use Rattle.vet_printf.proofs.searching.follow.Goals as goal

pub returns-then-fit-clause-grown : goal.returns-then-fit-clause-grown
returns-then-fit-clause-grown c = grown_nothing c.args.t.now c.args.class c.args.here (has c.args.met.now) c.args.list.now.items

pub returns-then-fit-clause-step : goal.returns-then-fit-clause-step
returns-then-fit-clause-step c = step_fit c.args.t.now c.args.class c.args.here c.in_ok-fit.fit (has c.args.met.now) c.in_ok-fit.ensures c.if-fit.true

pub returns-then-parted-clause-grown : goal.returns-then-parted-clause-grown
returns-then-parted-clause-grown c =
    grown_parts c.args.t.now c.args.class c.args.here c.in_ok-fit.fit c.in_ok-parts.parts.items (has c.args.met.now) (has c.visit_all.new.met) c.args.list.now.items c.visit_all.new.list.items
    c.in_ok-fit.ensures c.if-fit.false c.in_ok-parts.ensures
    (subst (λ (l : List ℕ). AreVisited l (length l) (has c.args.met.now) c.args.list.now.items (has c.visit_all.new.met) c.visit_all.new.list.items) c.deref.ensures.value c.in_ok-visit_all.ensures)

pub returns-then-parted-clause-step : goal.returns-then-parted-clause-step
returns-then-parted-clause-step c =
    step_parts c.args.t.now c.args.class c.args.here c.is_parted_type-parted.result c.in_ok-parts.parts.items (has c.args.met.now) (has c.visit_all.new.met) c.args.list.now.items c.visit_all.new.list.items
    c.is_parted_type-parted.ensures c.if-parted.true c.in_ok-parts.ensures
    (subst (λ (l : List ℕ). AreVisited l (length l) (has c.args.met.now) c.args.list.now.items (has c.visit_all.new.met) c.visit_all.new.list.items) c.deref.ensures.value c.in_ok-visit_all.ensures)

pub returns-clause-grown : goal.returns-clause-grown
returns-clause-grown c = grown_nothing c.args.t.now c.args.class c.args.here (has c.args.met.now) c.args.list.now.items

pub returns-clause-step : goal.returns-clause-step
returns-clause-step c =
    step_alone c.args.t.now c.args.class c.args.here c.in_ok-fit.fit c.is_parted_type-parted.result (has c.args.met.now) c.in_ok-fit.ensures c.if-fit.false c.is_parted_type-parted.ensures c.if-parted.false
