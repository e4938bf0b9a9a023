use Rattle.std.proofs.Common.{◌≡◌, ◌++◌, ℕ, List, length, take}
use Rattle.fact_cache.specs.Ranked.{IsNoted}
use Rattle.fact_cache.proofs.encode.note_all.Given as goal

abbrev pub invariant-loop-i : goal.invariant-loop-i
invariant-loop-i l =
    (length l.ranks.items ≡ length l.initial.ranks.items)
    × ((before : List ℕ) → IsNoted l.initial.ranks.items l.initial.order.items before → IsNoted l.ranks.items l.order.items (before ++ take l.i l.numbers))
