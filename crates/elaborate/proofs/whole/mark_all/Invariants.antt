use Rattle.std.proofs.Common.{◌≡◌, length}
use Rattle.typed_marks.specs.States.{so_far}
use Rattle.unit_read.specs.Subjects.{full_of, unit_of}
use Rattle.elaborate.specs.Walks.{blocks_of}
use Rattle.elaborate.specs.Covering.{Went, IsAtRest, AreBlocksMarked}
use Rattle.elaborate.proofs.whole.mark_all.Given as goal

abbrev pub invariant-loop-k : goal.invariant-loop-k
invariant-loop-k g l = record {
  went : Went g.R.Rules.rule l.fn.work.subject.now l.work.subject.now l.fn.work.state l.work.state;
  rests : IsAtRest (full_of l.fn.work.subject.now) l.work.state l.walk;
  marked : AreBlocksMarked (unit_of l.fn.work.subject.now) l.k (so_far l.work.state);
}
