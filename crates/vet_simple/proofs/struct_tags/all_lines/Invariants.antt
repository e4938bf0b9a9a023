use Rattle.std.proofs.Common.{map}
use Rattle.vet_simple.specs.TagSpots.{AreFirstLines}
use Rattle.vet_simple.proofs.struct_tags.all_lines.Given as goal

abbrev pub invariant-loop-f : goal.invariant-loop-f
invariant-loop-f l = AreFirstLines (map (λ t. t.now) l.texts) l.f l.lines.items
