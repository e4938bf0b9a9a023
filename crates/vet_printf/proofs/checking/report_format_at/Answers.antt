use Rattle.std.proofs.Common.{◌≡◌, ℕ, List, ◌-◌, Some, None, drop, sym, subst}
use Rattle.findings.specs.Gains.{Gains}
use Rattle.findings.specs.Passes.{unit_in, marks_in}
use Rattle.findings.proofs.GainLemmas.{gains_some, gains_nothing}
use Rattle.vet_printf.specs.Calls.{part_text, IsFormatFound}
use Rattle.vet_printf.proofs.checking.report_format_at.Goals as goal

pub returns-in_ok-report_format-in-Some : goal.returns-in_ok-report_format-in-Some
returns-in_ok-report_format-in-Some c =
    let u = unit_in c.args.p.now in
    let marks = marks_in c.args.p.now in
    gains_some (part_text marks c.args.file c.args.node.now (c.args.count - 1)) (IsFormatFound u marks c.args.file c.args.node.now c.args.callee c.args.errorf (drop c.args.count c.args.node.now.parts)) c.in-Some.text.now
    c.args.found.now.items c.report_format.new.found.items
    (subst (λ (i : ℕ). part_text (marks_in c.args.p.now) c.args.file c.args.node.now i ≡ Some c.in-Some.text.now) c.saturating_sub.ensures (sym c.in-Some.ensures.is))
    (subst (λ (l : List ℕ). Gains (IsFormatFound u marks c.args.file c.args.node.now c.args.callee c.args.errorf l c.in-Some.text.now) c.args.found.now.items c.report_format.new.found.items) c.rest_parts-nodes.ensures
    c.in_ok-report_format-in-Some.ensures)

pub returns-in-None : goal.returns-in-None
returns-in-None c =
    let u = unit_in c.args.p.now in
    let marks = marks_in c.args.p.now in
    gains_nothing (part_text marks c.args.file c.args.node.now (c.args.count - 1)) (IsFormatFound u marks c.args.file c.args.node.now c.args.callee c.args.errorf (drop c.args.count c.args.node.now.parts)) c.args.found.now.items
    (subst (λ (i : ℕ). part_text (marks_in c.args.p.now) c.args.file c.args.node.now i ≡ None) c.saturating_sub.ensures (sym c.in-None.ensures.is))
