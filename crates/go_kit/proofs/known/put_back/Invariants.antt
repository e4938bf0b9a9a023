use Rattle.std.proofs.Common.{length}
use Rattle.go_kit.specs.Keeping.{AreKnown}
use Rattle.go_kit.specs.Returning.{AreRead}
use Rattle.go_kit.proofs.known.put_back.Given as goal

abbrev pub invariant-loop-face : goal.invariant-loop-face
invariant-loop-face l = record { known : AreKnown l.table l.known; read : AreRead l.table l.env l.rest.items }

abbrev pub decreases-loop-face : goal.decreases-loop-face
decreases-loop-face l = length l.rest.items
