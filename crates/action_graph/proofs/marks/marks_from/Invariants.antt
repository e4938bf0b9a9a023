use Rattle.std.proofs.Common.{◌≡◌, ◌-◌}
use Rattle.gv_bytes.specs.Reading.{each_at}
use Rattle.gv_bytes.proofs.Loops.{with_front}
use Rattle.action_graph.specs.Marks.{mark_at}
use Rattle.action_graph.proofs.marks.marks_from.Given as goal

abbrev pub invariant-loop : goal.invariant-loop
invariant-loop l = with_front l.marks.items (each_at mark_at (l.count - l.counter) l.rest) ≡ each_at mark_at l.count l.bytes
