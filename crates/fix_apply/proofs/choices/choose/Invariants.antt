use Rattle.fix_apply.specs.Claims.{Claims}
use Rattle.fix_apply.proofs.choices.choose.Given as goal

abbrev pub invariant-loop-number : goal.invariant-loop-number
invariant-loop-number l = Claims l.fixes l.slots.items l.number l.number l.nodes.items l.choices.items
