use Rattle.std.proofs.Common.{ℕ, List, drop, sym, subst}
use Rattle.findings.specs.Gains.{Gains}
use Rattle.findings.specs.Passes.{unit_in, marks_in}
use Rattle.findings.proofs.GainLemmas.{gains_some, gains_nothing}
use Rattle.vet_printf.specs.Calls.{part_text, IsPlainFound}
use Rattle.vet_printf.proofs.checking.report_plain_at.Goals as goal

pub returns-in_ok-report_plain-in-Some : goal.returns-in_ok-report_plain-in-Some
returns-in_ok-report_plain-in-Some c =
    let u = unit_in c.args.p.now in
    gains_some (part_text (marks_in c.args.p.now) c.args.file c.args.node.now c.args.count) (IsPlainFound u c.args.file c.args.node.now c.args.callee (drop c.args.count c.args.node.now.parts)) c.in-Some.text.now c.args.found.now.items
    c.report_plain.new.found.items (sym c.in-Some.ensures.is)
    (subst (λ (l : List ℕ). Gains (IsPlainFound u c.args.file c.args.node.now c.args.callee l c.in-Some.text.now) c.args.found.now.items c.report_plain.new.found.items) c.rest_parts-nodes.ensures c.in_ok-report_plain-in-Some.ensures)

pub returns-in-None : goal.returns-in-None
returns-in-None c =
    gains_nothing (part_text (marks_in c.args.p.now) c.args.file c.args.node.now c.args.count) (IsPlainFound (unit_in c.args.p.now) c.args.file c.args.node.now c.args.callee (drop c.args.count c.args.node.now.parts)) c.args.found.now.items
    (sym c.in-None.ensures.is)
