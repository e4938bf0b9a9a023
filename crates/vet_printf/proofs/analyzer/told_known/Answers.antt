use Rattle.std.proofs.Common.{subst}
use Rattle.findings.specs.Passes.{unit_in, marks_in}
use Rattle.vet_printf.proofs.PrintingLemmas.{text_is, findings_are}
use Rattle.vet_printf.proofs.analyzer.told_known.Goals as goal

pub returns-clause-found : goal.returns-clause-found
returns-clause-found c =
    let p = c.args.p.now in
    findings_are c.args.known.now (unit_in p) (marks_in p) c.requires.known c.requires.apart c.requires.told c.in_ok-printing.printing c.in_ok-kinds.kinds.items c.in_ok-found.found.items c.in_ok-printing.ensures c.in_ok-kinds.ensures c.in_ok-found.ensures

pub returns-clause-facts : goal.returns-clause-facts
returns-clause-facts c =
    let p = c.args.p.now in
    text_is c.args.known.now (unit_in p) (marks_in p) c.requires.known c.requires.apart c.requires.told c.in_ok-printing.printing c.in_ok-table.table c.in_ok-facts.facts.items c.in_ok-printing.ensures c.in_ok-table.ensures c.in_ok-facts.ensures
