use Rattle.findings.specs.Passes.{unit_in, marks_in}
use Rattle.vet_printf.specs.Handing.{AreCellRow}
use Rattle.vet_printf.proofs.EachLemmas.{one_more}
use Rattle.vet_printf.proofs.spreads.cell_rows.Goals as goal

pub loop-file-preserved : goal.loop-file-preserved
loop-file-preserved c =
    one_more (AreCellRow (unit_in c.args.p.now) (marks_in c.args.p.now)) c.loop-file.file c.loop-file.rows.items c.push.new.self.items c.in_ok-row.row c.loop-file.invariant c.in_ok-row.ensures c.in_ok-push.ensures.items
