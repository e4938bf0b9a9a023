use Rattle.findings.specs.Passes.{unit_in, marks_in}
use Rattle.vet_printf.specs.Handing.{IsCell}
use Rattle.vet_printf.proofs.EachLemmas.{one_more}
use Rattle.vet_printf.proofs.spreads.cells_to.Goals as goal

pub loop-n-preserved : goal.loop-n-preserved
loop-n-preserved c =
    one_more (IsCell (unit_in c.args.p.now) (marks_in c.args.p.now) c.args.file) c.loop-n.n c.loop-n.row.items c.push.new.self.items c.in_ok-one.one c.loop-n.invariant c.in_ok-one.ensures c.in_ok-push.ensures.items
