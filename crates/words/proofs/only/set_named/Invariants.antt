use Rattle.std.proofs.Common.{◌≡◌, length}
use Rattle.words.specs.Lists.{set_named, with_names, pieces_of}
use Rattle.words.proofs.only.set_named.Given as goal

abbrev pub invariant-names : goal.invariant-names
invariant-names l = set_named l.text ≡ with_names l.set (pieces_of l.rest)

abbrev pub decreases-names : goal.decreases-names
decreases-names l = length l.rest
