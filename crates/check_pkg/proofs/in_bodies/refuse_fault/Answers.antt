use Rattle.std.proofs.Common.{ap}
use Rattle.check_pkg.specs.declared.refusal.Fault.TheVariants.{Rule as RuleFault}
use Rattle.check_pkg.proofs.BodyLemmas.{fault_gain}
use Rattle.check_pkg.proofs.in_bodies.refuse_fault.Goals as goal

pub returns : goal.returns
returns c = fault_gain c.args.found _ c.args.list.now.items c.push.new.self.items (ap RuleFault c.rule_of.ensures) c.in_ok-push.ensures.items
