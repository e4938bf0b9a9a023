use Rattle.unit_read.specs.Subjects.{full_of}
use Rattle.elaborate.specs.Covering.{Went, IsAtRest}
use Rattle.elaborate.proofs.ahead.mark_ahead.Given as goal

abbrev pub invariant-loop-i : goal.invariant-loop-i
invariant-loop-i g l = record {
  went : Went g.R.Rules.rule l.fn.work.subject.now l.work.subject.now l.fn.work.state l.work.state;
  rests : IsAtRest (full_of l.fn.work.subject.now) l.work.state l.walk;
}
