use Rattle.package_objects.specs.Declares.{items}
use Rattle.unit_read.specs.Subjects.{unit_of}
use Rattle.rule_words.specs.Good.{known_of}
use Rattle.assign_rules.specs.Sharing.{nth_assigned}
use Rattle.assign_rules.proofs.RestLemmas.{IsRest}
use Rattle.assign_rules.proofs.sharing.each_assigned.Given as goal

abbrev pub invariant-loop-i : goal.invariant-loop-i
invariant-loop-i l = IsRest l.u l.s (nth_assigned (unit_of l.u) l.block l.file l.nodes l.kind (known_of l.s l.x) l.many) (items l.nodes l.targets) l.i
