use Rattle.unit_read.specs.Subjects.{unit_of}
use Rattle.assign_rules.proofs.AroundLemmas.{wrapped_on}
use Rattle.assign_rules.proofs.around.outermost.Goals as goal

pub loop-i-preserved : goal.loop-i-preserved
loop-i-preserved c = wrapped_on (unit_of c.args.u.now) c.args.file c.args.n c.loop-i.i c.loop-i.at _ c.loop-i.invariant c.outside-at.ensures
