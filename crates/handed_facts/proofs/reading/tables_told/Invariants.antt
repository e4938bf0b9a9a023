use Rattle.handed_facts.specs.Handed.{AreToldTo}
use Rattle.handed_facts.proofs.reading.tables_told.Given as goal

abbrev pub invariant-loop-i : goal.invariant-loop-i
invariant-loop-i g l = AreToldTo g.F.FactKind.spelling l.given l.i l.tables.items
