use Rattle.std.proofs.Common.{sym}
use Rattle.object_order.specs.Spots.{place}
use Rattle.unit_read.specs.Units.{node_at}
use Rattle.findings.specs.Passes.{unit_in, marks_in}
use Rattle.findings.proofs.GainLemmas.{gains_some, gains_nothing}
use Rattle.vet_simple.specs.NilFunctions.{IsComparedNode}
use Rattle.vet_simple.proofs.nil_functions.report_with.Goals as goal

pub returns-in_ok-report_node-in-Some : goal.returns-in_ok-report_node-in-Some
returns-in_ok-report_node-in-Some c =
    let u = unit_in c.args.p.now in
    gains_some (node_at u (place c.args.file c.args.n)) (IsComparedNode u (marks_in c.args.p.now) c.args.file c.args.node.now c.args.outcome.now c.args.n) c.in-Some.named.now c.args.found.now.items
    c.report_node.new.found.items (sym c.in-Some.ensures) c.in_ok-report_node-in-Some.ensures

pub returns-in-None : goal.returns-in-None
returns-in-None c =
    let u = unit_in c.args.p.now in
    gains_nothing (node_at u (place c.args.file c.args.n)) (IsComparedNode u (marks_in c.args.p.now) c.args.file c.args.node.now c.args.outcome.now c.args.n) c.args.found.now.items (sym c.in-None.ensures)
