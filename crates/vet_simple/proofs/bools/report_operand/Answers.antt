use Rattle.std.proofs.Common.{sym, ◌∙◌}
use Rattle.findings.specs.Passes.{unit_in, marks_in}
use Rattle.vet_simple.proofs.RunLemmas.{seen_quiet, seen_noisy}
use Rattle.vet_simple.proofs.bools.report_operand.Goals as goal

pub returns-then-is_quiet : goal.returns-then-is_quiet
returns-then-is_quiet c = λ xs start i was at.
    seen_quiet (unit_in c.args.p.now) (marks_in c.args.p.now) c.args.file c.args.c xs start i c.args.x c.args.found.now.items c.report_again.new.found.items c.report_suspect.new.found.items c.args.operands.now
    c.args.compared.now c.report_again.new.met c.report_suspect.new.met was at (sym c.is_quiet.ensures ∙ c.if-is_quiet.true) c.in_ok-report_again.ensures.found c.in_ok-report_suspect.ensures.found
    c.in_ok-report_again.ensures.met c.in_ok-report_suspect.ensures.met

pub returns : goal.returns
returns c = λ xs start i was at.
    seen_noisy (unit_in c.args.p.now) (marks_in c.args.p.now) c.args.file c.args.c xs start i c.args.x c.args.found.now.items c.args.operands.now c.args.compared.now c.forget.new.met c.forget-2.new.met was at
    (sym c.is_quiet.ensures ∙ c.if-is_quiet.false) c.forget.ensures c.forget-2.ensures
