use Rattle.variable_rules.proofs.FormLemmas.{peeled_on}
use Rattle.variable_rules.proofs.forms.bare.Goals as goal

pub loop-i-preserved : goal.loop-i-preserved
loop-i-preserved c = peeled_on c.args.nodes.now c.args.n c.loop-i.i c.loop-i.at _ c.loop-i.invariant c.inside_at-at.ensures
