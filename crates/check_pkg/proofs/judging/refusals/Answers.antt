use Rattle.std.proofs.Common.{◌↔◌, List, subst, sym}
use Rattle.std.specs.List.{Contains}
use Rattle.std.specs.List.Sorted.{IsNonDecreasingBy}
use Rattle.mark_walk.specs.Asks.{filled}
use Rattle.typed_marks.specs.Meanings.{Quiet}
use Rattle.typed_marks.specs.States.{so_far}
use Rattle.unit_read.specs.Subjects.{full_of}
use Rattle.check_pkg.specs.declared.refusal.Refusal.{Refusal}
use Rattle.check_pkg.specs.Order.{rank_of}
use Rattle.check_pkg.specs.Refusals.{IsRefused}
use Rattle.check_pkg.proofs.ListLemmas.{same_permuted, same_through}
use Rattle.check_pkg.proofs.judging.refusals.Goals as goal

pub distinct-requires : goal.distinct-requires
distinct-requires c = subst (λ (xs : List Refusal). IsNonDecreasingBy rank_of xs) (sym c.deref.ensures.value) c.in_ok-sort.ensures.sorted

pub returns-clause-all : goal.returns-clause-all
returns-clause-all c =
    let P = IsRefused (full_of c.args.u.now) (filled Quiet (so_far c.args.s.now)) in
    same_through P c.deref.result.now c.in_ok-sorted.sorted.items c.in_ok-sorted.ensures.same
    (subst (λ (xs : List Refusal). (x : Refusal) → Contains xs x ↔ P x) (sym c.deref.ensures.value)
    (same_permuted P c.in_ok-list.list.items c.sort.new.list.items c.in_ok-sort.ensures.same c.in_ok-list.ensures))
