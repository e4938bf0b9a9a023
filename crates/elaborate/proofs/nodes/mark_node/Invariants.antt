use Rattle.typed_marks.specs.States.{so_far}
use Rattle.unit_read.specs.Subjects.{full_of}
use Rattle.elaborate.specs.Covering.{Went, IsAtRest, AreStagesMarked}
use Rattle.elaborate.proofs.nodes.mark_node.Given as goal

abbrev pub invariant-loop-number : goal.invariant-loop-number
invariant-loop-number g l = record {
  went : Went g.R.Rules.rule l.fn.work.subject.now l.work.subject.now l.fn.work.state l.work.state;
  rests : IsAtRest (full_of l.fn.work.subject.now) l.work.state l.walk;
  marked : AreStagesMarked l.block l.node l.number (so_far l.work.state);
}
