use Rattle.std.proofs.Common.{◌≡◌}
use Rattle.rule_words.specs.Steps.{IsStepOf}
use Rattle.elaborate.specs.Settling.{Follows, left}
use Rattle.elaborate.proofs.settling.settle.Given as goal

abbrev pub invariant-loop-alloc : goal.invariant-loop-alloc
invariant-loop-alloc l = record {
  over : IsStepOf l.s l.now;
  follows : Follows l.u l.s l.fn.step l.now;
}

abbrev pub decreases-loop-alloc : goal.decreases-loop-alloc
decreases-loop-alloc l = left l.now
