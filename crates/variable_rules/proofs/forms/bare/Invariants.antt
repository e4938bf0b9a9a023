use Rattle.std.proofs.Common.{◌≡◌}
use Rattle.variable_rules.specs.Forms.{peeled}
use Rattle.variable_rules.proofs.forms.bare.Given as goal

abbrev pub invariant-loop-i : goal.invariant-loop-i
invariant-loop-i l = l.at ≡ peeled l.nodes l.i l.n
