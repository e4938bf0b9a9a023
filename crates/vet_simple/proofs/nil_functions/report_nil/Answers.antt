use Rattle.std.proofs.Common.{sym}
use Rattle.findings.specs.Passes.{unit_in, marks_in}
use Rattle.findings.proofs.GainLemmas.{gains_some, gains_nothing}
use Rattle.vet_simple.specs.NilFunctions.{outcome_at, IsCompared}
use Rattle.vet_simple.proofs.nil_functions.report_nil.Goals as goal

pub returns-in_ok-report_compared-in-Some : goal.returns-in_ok-report_compared-in-Some
returns-in_ok-report_compared-in-Some c =
    let u = unit_in c.args.p.now in
    gains_some (outcome_at u c.args.at.file c.args.node.now) (IsCompared u (marks_in c.args.p.now) c.args.at.file c.args.node.now) c.in-Some.outcome.now c.args.found.now.items c.report_compared.new.found.items
    (sym c.in-Some.ensures) c.in_ok-report_compared-in-Some.ensures

pub returns-in-None : goal.returns-in-None
returns-in-None c =
    let u = unit_in c.args.p.now in
    gains_nothing (outcome_at u c.args.at.file c.args.node.now) (IsCompared u (marks_in c.args.p.now) c.args.at.file c.args.node.now) c.args.found.now.items (sym c.in-None.ensures)
