use Rattle.std.proofs.Common.{◌≡◌, ◌++◌, take}
use Rattle.std.specs.List.{flat_map}
use Rattle.export_text.specs.MentionIds.{object_ids}
use Rattle.export_text.proofs.mentioning.push_objects.Given as goal

abbrev pub invariant-loop-object : goal.invariant-loop-object
invariant-loop-object l = l.out.items ≡ l.fn.out.items ++ flat_map object_ids (take l.object-index l.objects)
