use Rattle.std.proofs.Common.{List, sym, ap, ◌∙◌}
use Rattle.go_tree.specs.declared.tree.Node.{Node}
use Rattle.unit_read.specs.Units.{nodes_at}
use Rattle.findings.specs.Passes.{unit_in, marks_in}
use Rattle.findings.proofs.GainLemmas.{gains_some, gains_nothing}
use Rattle.vet_simple.specs.Unused.{call_of, IsUnusedCall}
use Rattle.vet_simple.proofs.unused.report_some_call.Goals as goal

pub returns-in_ok-report_call-in-Some : goal.returns-in_ok-report_call-in-Some
returns-in_ok-report_call-in-Some c =
    let u = unit_in c.args.p.now in
    gains_some (call_of (nodes_at u c.args.at.file) c.args.at.node) (IsUnusedCall u (marks_in c.args.p.now) c.args.at.file c.args.node.now) c.in-Some.call.now c.args.found.now.items
    c.report_call.new.found.items (ap (λ (l : List Node). call_of l c.args.at.node) (sym c.nodes_at.ensures) ∙ sym c.in-Some.ensures) c.in_ok-report_call-in-Some.ensures

pub returns-in-None : goal.returns-in-None
returns-in-None c =
    let u = unit_in c.args.p.now in
    gains_nothing (call_of (nodes_at u c.args.at.file) c.args.at.node) (IsUnusedCall u (marks_in c.args.p.now) c.args.at.file c.args.node.now) c.args.found.now.items
    (ap (λ (l : List Node). call_of l c.args.at.node) (sym c.nodes_at.ensures) ∙ sym c.in-None.ensures)
