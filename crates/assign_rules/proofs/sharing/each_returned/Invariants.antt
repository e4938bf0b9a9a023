use Rattle.unit_read.specs.Subjects.{unit_of}
use Rattle.rule_words.specs.Good.{known_of}
use Rattle.variable_rules.specs.InCode.{types_of}
use Rattle.assign_rules.specs.Sharing.{nth_returned}
use Rattle.assign_rules.proofs.RestLemmas.{IsRest}
use Rattle.assign_rules.proofs.sharing.each_returned.Given as goal

abbrev pub invariant-loop-i : goal.invariant-loop-i
invariant-loop-i l = IsRest l.u l.s (nth_returned (unit_of l.u) (known_of l.s l.x) l.many) (types_of l.s l.results) l.i
