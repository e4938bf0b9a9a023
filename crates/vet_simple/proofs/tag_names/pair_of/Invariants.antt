use Rattle.std.proofs.Common.{◌≡◌, drop}
use Rattle.vet_simple.specs.TagNames.{pair_of}
use Rattle.vet_simple.proofs.tag_names.pair_of.Given as goal

abbrev pub invariant-loop-p : goal.invariant-loop-p
invariant-loop-p l = pair_of l.key (drop l.p-index l.pairs) ≡ pair_of l.key l.pairs
