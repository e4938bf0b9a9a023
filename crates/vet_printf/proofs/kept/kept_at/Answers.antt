use Rattle.vet_printf.proofs.JudgeLemmas.{judged_at}
use Rattle.vet_printf.proofs.kept.kept_at.Goals as goal

pub returns : goal.returns
returns c = judged_at c.args.t.now c.args.id.0 c.args.cells.now c.cell_at.result c.requires c.cell_at.ensures
