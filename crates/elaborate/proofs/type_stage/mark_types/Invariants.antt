use Rattle.typed_marks.specs.States.{so_far}
use Rattle.unit_read.specs.Subjects.{full_of}
use Rattle.elaborate.specs.Covering.{Went, IsAtRest, AreStagesOfNodes}
use Rattle.elaborate.proofs.type_stage.mark_types.Given as goal

abbrev pub invariant-loop-node : goal.invariant-loop-node
invariant-loop-node g l = record {
  went : Went g.R.Rules.rule l.fn.work.subject.now l.work.subject.now l.fn.work.state l.work.state;
  rests : IsAtRest (full_of l.fn.work.subject.now) l.work.state l.walk;
  marked : AreStagesOfNodes l.block l.fn.low l.node 6 (so_far l.work.state);
}
