use Rattle.rule_words.specs.Scenes.{type_in}
use Rattle.variable_rules.specs.InCode.{types_of}
use Rattle.variable_rules.specs.Sharing.{all_assigned}
use Rattle.variable_rules.proofs.SharingLemmas.{Rests, from}
use Rattle.variable_rules.proofs.assigning.all_assigned.Given as goal

abbrev pub invariant-loop-i : goal.invariant-loop-i
invariant-loop-i l = Rests l.u l.s (all_assigned l.methods (type_in l.s l.to) (types_of l.s l.list)) (from l.s l.methods l.to l.list l.i)
