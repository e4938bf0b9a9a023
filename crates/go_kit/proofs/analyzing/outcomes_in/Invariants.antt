use Rattle.std.proofs.Common.{map}
use Rattle.mark_walk.specs.Asks.{filled}
use Rattle.typed_marks.specs.Meanings.{Quiet}
use Rattle.typed_marks.specs.States.{so_far}
use Rattle.unit_read.specs.Subjects.{full_of}
use Rattle.action_graph.specs.Free.{path_of}
use Rattle.go_kit.proofs.RunLemmas.{AreFirst}
use Rattle.go_kit.proofs.analyzing.outcomes_in.Given as goal

abbrev pub invariant-loop-run : goal.invariant-loop-run
invariant-loop-run l = AreFirst (full_of l.subject) (filled Quiet (so_far l.state)) (map path_of l.files) l.asked l.run-index l.outcomes.items
