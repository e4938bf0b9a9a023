use Rattle.std.proofs.Common.{length}
use Rattle.bundles.proofs.bundle.sections.Given as goal

abbrev pub decreases-loop-text : goal.decreases-loop-text
decreases-loop-text l = length l.rest
