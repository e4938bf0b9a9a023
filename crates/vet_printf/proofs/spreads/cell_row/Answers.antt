use Rattle.std.proofs.Common.{ℕ, subst}
use Rattle.findings.specs.Passes.{unit_in, marks_in}
use Rattle.vet_printf.specs.Handing.{AreCells}
use Rattle.vet_printf.proofs.spreads.cell_row.Goals as goal

pub returns : goal.returns
returns c = subst (λ (k : ℕ). AreCells (unit_in c.args.p.now) (marks_in c.args.p.now) c.args.file k c.in_ok-row.row.items) c.node_count.ensures.count c.in_ok-row.ensures
