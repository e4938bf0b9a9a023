use Rattle.std.proofs.Common.{sym, ◌∙◌}
use Rattle.findings.specs.Passes.{unit_in, marks_in}
use Rattle.vet_printf.proofs.CallLemmas.{plain_gains, plain_none}
use Rattle.vet_printf.proofs.checking.report_plain.Goals as goal

pub returns-then-has_possible : goal.returns-then-has_possible
returns-then-has_possible c =
    let p = c.args.p.now in
    plain_gains (unit_in p) (marks_in p) c.args.file c.args.nodes.now c.args.node.now c.args.callee c.args.text.now c.in_ok-read.read c.args.found.now.items c.push_fault.new.found.items c.in_ok-read.ensures
    (sym c.has_possible.ensures ∙ c.if-has_possible.true) c.in_ok-push_fault.ensures

pub returns : goal.returns
returns c =
    let p = c.args.p.now in
    plain_none (unit_in p) (marks_in p) c.args.file c.args.nodes.now c.args.node.now c.args.callee c.args.text.now c.in_ok-read.read c.args.found.now.items c.in_ok-read.ensures (sym c.has_possible.ensures ∙ c.if-has_possible.false)
