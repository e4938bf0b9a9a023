use Rattle.std.proofs.Common.{◌-◌, ◌^◌}
use Rattle.object_order.specs.Quiet.{quiet_at}
use Rattle.object_order.specs.Trimmed.{trimmed_moves}
use Rattle.object_order.specs.Views.{world_of}
use Rattle.object_order.proofs.SearchLemmas.{Goes}
use Rattle.object_order.proofs.explore.explore.Given as goal

abbrev pub invariant-loop-done : goal.invariant-loop-done
invariant-loop-done l = Goes (trimmed_moves (quiet_at l.quiet.items) (world_of l.view)) l.seeds.items l.found.items l.numbers l.graph l.done

abbrev pub decreases-loop-done : goal.decreases-loop-done
decreases-loop-done l = 2 ^ 32 - l.done
