use Rattle.std.proofs.Common.{sym}
use Rattle.unit_read.specs.Subjects.{unit_of}
use Rattle.unit_read.specs.Units.{node_at}
use Rattle.check_pkg.specs.Late.{IsLateIn}
use Rattle.check_pkg.proofs.GainLemmas.{gains_some, gains_nothing}
use Rattle.check_pkg.proofs.late_rules.refuse_at.Goals as goal

pub returns-in_ok-refuse_node-in-Some : goal.returns-in_ok-refuse_node-in-Some
returns-in_ok-refuse_node-in-Some c =
    let u = unit_of c.args.u.now in
    gains_some (node_at u c.args.at) (IsLateIn u c.args.late c.args.at) c.in-Some.node.now c.args.list.now.items c.refuse_node.new.list.items (sym c.in-Some.ensures) c.in_ok-refuse_node-in-Some.ensures

pub returns-in-None : goal.returns-in-None
returns-in-None c =
    let u = unit_of c.args.u.now in
    gains_nothing (node_at u c.args.at) (IsLateIn u c.args.late c.args.at) c.args.list.now.items (sym c.in-None.ensures)
