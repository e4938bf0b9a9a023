use Rattle.std.proofs.Common.{◌≡◌, ◌≤◌, ℕ, List, drop, map, length}
use Rattle.bind.specs.Places.{placed, place_from}
use Rattle.bind.proofs.places.places.Given as goal

abbrev pub invariant-loop-left : goal.invariant-loop-left
invariant-loop-left l = record {
  within : l.left ≤ length l.names;
  so_far : (q : List ℕ) → placed l.places q ≡ place_from l.left (map (λ n. n.now) (drop l.left l.names)) q;
}

abbrev pub decreases-loop-left : goal.decreases-loop-left
decreases-loop-left l = l.left
