use Rattle.findings.specs.Passes.{unit_in, marks_in}
use Rattle.vet_printf.proofs.CellLemmas.{cell_other}
use Rattle.vet_printf.proofs.kind_rows.kinds_at.Goals as goal

pub returns : goal.returns
returns c = cell_other c.args.known.now (unit_in c.args.p.now) (marks_in c.args.p.now) c.args.x.now c.args.file c.args.n c.may_name.result c.may_name.ensures c.if-may_name.false
