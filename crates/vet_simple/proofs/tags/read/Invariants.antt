use Rattle.std.proofs.Common.{◌≡◌, take}
use Rattle.std.specs.List.{fold}
use Rattle.vet_simple.specs.Tags.{step, nothing_read}
use Rattle.vet_simple.proofs.tags.read.Given as goal

abbrev pub invariant-loop-b : goal.invariant-loop-b
invariant-loop-b l = fold step nothing_read (take l.b-index l.tag) ≡ l.r
