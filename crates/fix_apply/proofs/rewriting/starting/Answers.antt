use Rattle.std.proofs.Common.{arith, ap}
use Rattle.std.proofs.lemmas.List.{get_or_default}
use Rattle.fix_apply.specs.declared.rewriting.Spot.{Spot}
use Rattle.fix_apply.proofs.Orders.{none_starts}
use Rattle.fix_apply.proofs.rewriting.starting.Goals as goal
use Rattle.fix_apply.proofs.rewriting.starting.Goals.{else-first-spots-via-then-first-spots+else-spots-first, else-first-spots-via-else-first-spots}

pub returns-else-first-spots : goal.returns-else-first-spots
returns-else-first-spots c =
    elim c.else-first-spots.branch [
      | else-first-spots-via-then-first-spots+else-spots-first w ↦ none_starts _ _ _ _ c.requires.order c.requires.passed (λ d below. let zero : Spot = record { start = 0; number = 0 } in let same = get_or_default c.args.spots.now c.args.first d zero below in omega (arith, c.requires.stops zero below, w.if-spots-first.false, ap (λ s. s.start) same))
      | else-first-spots-via-else-first-spots w ↦ none_starts _ _ _ _ c.requires.order c.requires.passed (λ d below. absurd (omega (arith, w.if-first-spots.false)))
    ]
