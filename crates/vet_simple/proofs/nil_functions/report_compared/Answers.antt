use Rattle.std.proofs.Common.{sym, ◌∙◌}
use Rattle.findings.specs.Passes.{unit_in, marks_in}
use Rattle.findings.proofs.GainLemmas.{gains_some, gains_nothing}
use Rattle.vet_simple.specs.NilFunctions.{compared, IsComparedWith}
use Rattle.vet_simple.proofs.nil_functions.report_compared.Goals as goal

pub returns-in_ok-report_with-in-Some : goal.returns-in_ok-report_with-in-Some
returns-in_ok-report_with-in-Some c =
    let u = unit_in c.args.p.now in
    let marks = marks_in c.args.p.now in
    gains_some (compared u marks c.args.file c.args.node.now) (IsComparedWith u marks c.args.file c.args.node.now c.args.outcome.now) c.in-Some.n c.args.found.now.items c.report_with.new.found.items
    (sym c.compared.ensures ∙ c.in-Some.is) c.in_ok-report_with-in-Some.ensures

pub returns-in-None : goal.returns-in-None
returns-in-None c =
    let u = unit_in c.args.p.now in
    let marks = marks_in c.args.p.now in
    gains_nothing (compared u marks c.args.file c.args.node.now) (IsComparedWith u marks c.args.file c.args.node.now c.args.outcome.now) c.args.found.now.items (sym c.compared.ensures ∙ c.in-None.is)
