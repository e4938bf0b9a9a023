use Rattle.std.proofs.Common.{◌≡◌, ◌++◌, take}
use Rattle.std.specs.List.{flat_map}
use Rattle.export_text.specs.MentionIds.{defined_ids}
use Rattle.export_text.proofs.mentioning.push_defineds.Given as goal

abbrev pub invariant-loop-defined : goal.invariant-loop-defined
invariant-loop-defined l = l.out.items ≡ l.fn.out.items ++ flat_map defined_ids (take l.defined-index l.types)
