use Rattle.std.proofs.Common.{◌≡◌, ◌++◌, take, flat_map}
use Rattle.object_order.specs.Trimmed.{trimmed_root}
use Rattle.object_order.specs.Quiet.{quiet_at}
use Rattle.object_order.proofs.moves.go_under_roots.Given as goal

abbrev pub invariant-loop-root : goal.invariant-loop-root
invariant-loop-root l = l.row.items ≡ l.fn.row.items ++ flat_map (trimmed_root (quiet_at l.quiet.items) l.spot l.entry.form) (take l.root-index l.entry.roots)
