use Rattle.std.proofs.Common.{ℕ, subst}
use Rattle.findings.specs.Passes.{unit_in, marks_in}
use Rattle.vet_printf.specs.Items.{AreKindsCells}
use Rattle.vet_printf.proofs.kind_rows.kinds_row.Goals as goal

pub returns : goal.returns
returns c = subst (λ (k : ℕ). AreKindsCells c.args.known.now (unit_in c.args.p.now) (marks_in c.args.p.now) c.args.x.now c.args.file k c.in_ok-row.row.items) c.node_count.ensures.count c.in_ok-row.ensures
