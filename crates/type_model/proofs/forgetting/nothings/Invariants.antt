use Rattle.std.proofs.Common.{◌≡◌, take}
use Rattle.type_model.specs.Forgetting.{nothings}
use Rattle.type_model.proofs.forgetting.nothings.Given as goal

abbrev pub invariant-loop-term : goal.invariant-loop-term
invariant-loop-term l = l.declared.items ≡ nothings (take l._term-index l.terms)
