use Rattle.package_objects.specs.Declares.{items}
use Rattle.unit_read.specs.Subjects.{unit_of}
use Rattle.assign_rules.proofs.AroundLemmas.{new_on}
use Rattle.assign_rules.proofs.assigning.any_new.Goals as goal

pub loop-i-preserved : goal.loop-i-preserved
loop-i-preserved c = new_on (unit_of c.args.u.now) c.args.file (items c.args.nodes.now c.args.names) c.loop-i.i _ c.loop-i.found _ _ c.loop-i.invariant c.item.ensures c.is_new_at.ensures c.either-found.ensures
