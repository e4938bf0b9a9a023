use Rattle.findings.specs.Passes.{unit_in}
use Rattle.vet_printf.specs.Items.{AreFactsTo}
use Rattle.vet_printf.proofs.fact_text.table_of.Given as goal

abbrev pub invariant-loop-i : goal.invariant-loop-i
invariant-loop-i l = AreFactsTo (unit_in l.p) l.x l.i l.table
