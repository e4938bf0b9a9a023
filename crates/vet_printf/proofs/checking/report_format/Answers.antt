use Rattle.std.proofs.Common.{Option, subst}
use Rattle.findings.specs.Passes.{unit_in, marks_in}
use Rattle.vet_printf.specs.declared.fault.Fault.{Fault}
use Rattle.vet_printf.specs.Calls.{IsFaultOf}
use Rattle.vet_printf.proofs.CallLemmas.{format_gains, format_none}
use Rattle.vet_printf.proofs.checking.report_format.Goals as goal

pub returns-in_ok-push_fault-in-Some : goal.returns-in_ok-push_fault-in-Some
returns-in_ok-push_fault-in-Some c =
    let p = c.args.p.now in
    format_gains (unit_in p) (marks_in p) c.args.file c.args.nodes.now c.args.errorf c.args.text.now c.args.node.now c.args.callee c.in-Some.fault c.args.found.now.items c.push_fault.new.found.items
    (subst (λ (o : Option Fault). IsFaultOf (unit_in p) (marks_in p) c.args.file c.args.errorf c.args.nodes.now c.args.text.now o) c.in-Some.is c.in_ok-checked.ensures) c.in_ok-push_fault-in-Some.ensures

pub returns-in-None : goal.returns-in-None
returns-in-None c =
    let p = c.args.p.now in
    format_none (unit_in p) (marks_in p) c.args.file c.args.nodes.now c.args.errorf c.args.text.now c.args.node.now c.args.callee c.args.found.now.items
    (subst (λ (o : Option Fault). IsFaultOf (unit_in p) (marks_in p) c.args.file c.args.errorf c.args.nodes.now c.args.text.now o) c.in-None.is c.in_ok-checked.ensures)
