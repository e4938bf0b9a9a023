use Rattle.std.proofs.Common.{sym, ◌∙◌}
use Rattle.unit_read.specs.Units.{nodes_at}
use Rattle.findings.specs.Gains.{OfSome}
use Rattle.findings.specs.Passes.{unit_in, marks_in}
use Rattle.findings.proofs.GainLemmas.{gains_if}
use Rattle.vet_simple.specs.Unused.{is_statement, call_of, IsUnusedCall}
use Rattle.vet_simple.proofs.unused.report_unused.Goals as goal

pub returns-then-is_statement : goal.returns-then-is_statement
returns-then-is_statement c =
    let u = unit_in c.args.p.now in
    gains_if (is_statement u c.args.at) (OfSome (call_of (nodes_at u c.args.at.file) c.args.at.node) (IsUnusedCall u (marks_in c.args.p.now) c.args.at.file c.args.node.now)) c.args.found.now.items
    c.report_some_call.new.found.items (sym c.is_statement.ensures ∙ c.if-is_statement.true) c.in_ok-report_some_call.ensures
