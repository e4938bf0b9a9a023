use Rattle.std.proofs.Common.{◌≡◌, take}
use Rattle.std.specs.List.{flat_map}
use Rattle.name_circles.specs.Values.{if_kept}
use Rattle.name_circles.proofs.values.kept_entries.Given as goal

abbrev pub invariant-loop-entry : goal.invariant-loop-entry
invariant-loop-entry l = l.kept.items ≡ flat_map (if_kept l.view.entries.items l.view.numbers l.flags.items) (take l.entry-index l.view.entries.items)
