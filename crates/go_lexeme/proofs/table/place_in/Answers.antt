use Rattle.std.proofs.Common.{ap, get_or}
use Rattle.go_lexeme.proofs.Slots.{place_found, place_past, place_other}
use Rattle.go_lexeme.proofs.table.place_in.Goals as goal

pub returns-then-eq-clause-place : goal.returns-then-eq-clause-place
returns-then-eq-clause-place c = place_found (λ entry. entry.now) _ _ _ _ _ (ap (λ k. get_or c.args.slots.now k 0) c.slot_of.ensures.slot) c.if-place-table.false c.if-eq.ensures

pub returns-then-place-table-clause-place : goal.returns-then-place-table-clause-place
returns-then-place-table-clause-place c = place_past (λ entry. entry.now) _ _ _ _ (ap (λ k. get_or c.args.slots.now k 0) c.slot_of.ensures.slot) c.if-place-table.true

pub returns-else-eq-clause-place : goal.returns-else-eq-clause-place
returns-else-eq-clause-place c = place_other (λ entry. entry.now) _ _ _ _ _ (ap (λ k. get_or c.args.slots.now k 0) c.slot_of.ensures.slot) c.if-place-table.false c.if-eq.ensures
