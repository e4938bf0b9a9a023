use Rattle.std.proofs.Common.{Some, None}
use Rattle.findings.specs.Passes.{unit_in, marks_in}
use Rattle.vet_printf.proofs.CellLemmas.{cell_some, cell_none}
use Rattle.vet_printf.proofs.kind_rows.cell_named.Goals as goal

pub returns-in-Some : goal.returns-in-Some
returns-in-Some c =
    let p = c.args.p.now in
    cell_some c.args.known.now (unit_in p) (marks_in p) c.args.x.now c.args.file c.args.n c.in_ok-named.named c.in-Some.m c.kinds_of_member.result c.in_ok-named.ensures c.in-Some.is c.kinds_of_member.ensures

pub returns-in-None : goal.returns-in-None
returns-in-None c =
    let p = c.args.p.now in
    cell_none c.args.known.now (unit_in p) (marks_in p) c.args.x.now c.args.file c.args.n c.in_ok-named.named c.in_ok-named.ensures c.in-None.is
