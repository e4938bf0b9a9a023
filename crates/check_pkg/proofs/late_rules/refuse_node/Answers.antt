use Rattle.std.proofs.Common.{ap, ◌∙◌}
use Rattle.unit_read.specs.Subjects.{unit_of}
use Rattle.check_pkg.specs.Faults.{start_of, spot}
use Rattle.check_pkg.specs.declared.refusal.Fault.TheVariants.{Rule as RuleFault}
use Rattle.check_pkg.proofs.LateLemmas.{late_node}
use Rattle.check_pkg.proofs.late_rules.refuse_node.Goals as goal

pub returns : goal.returns
returns c =
    let u = unit_of c.args.u.now in
    late_node u c.args.late c.args.at c.args.node.now _ _ c.args.list.now.items c.push.new.self.items
    (ap (spot c.args.at.file) (c.start_of.ensures ∙ ap (start_of u c.args.at.file) c.late_token.ensures)) (ap RuleFault c.late_rule.ensures) c.in_ok-push.ensures.items
