use Rattle.body_facts.specs.LabelTables.{AreTold}
use Rattle.body_facts.proofs.label_tables.told_of.Given as goal

abbrev pub invariant-loop-k : goal.invariant-loop-k
invariant-loop-k l = AreTold l.jumps l.k l.count l.found.items
