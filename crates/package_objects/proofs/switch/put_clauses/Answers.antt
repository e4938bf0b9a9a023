use Rattle.package_objects.specs.Declares.{clause_types}
use Rattle.package_objects.proofs.GatherLemmas.{gather_on}
use Rattle.package_objects.proofs.switch.put_clauses.Goals as goal

pub loop-i-preserved : goal.loop-i-preserved
loop-i-preserved c = gather_on (clause_types c.args.nodes.now c.args.switch.now) c.loop-i.i c.args.roots.now.items _ _ c.loop-i.invariant c.in_ok-put_clause.ensures
