use Rattle.std.proofs.Common.{take}
use Rattle.type_model.specs.Comparing.{IsWoven}
use Rattle.type_model.specs.Forgetting.{nothings}
use Rattle.type_model.proofs.forgetting.net_of.Given as goal

abbrev pub invariant-loop-term : goal.invariant-loop-term
invariant-loop-term l = IsWoven (take l.term-index l.terms) (nothings (take l.term-index l.terms)) l.net
