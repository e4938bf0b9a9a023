use Rattle.std.proofs.Common.{◌<◌, ℕ}
use Rattle.bundles.specs.Cuts.{StandsAt}
use Rattle.bundles.proofs.bundle.cut.Given as goal

abbrev pub invariant-loop-at : goal.invariant-loop-at
invariant-loop-at l = (k : ℕ) → k < l.at → ¬ (StandsAt l.bytes l.mark k)
