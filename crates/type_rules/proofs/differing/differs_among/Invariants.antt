use Rattle.std.proofs.Common.{◌≡◌, ◌||◌, map}
use Rattle.type_rules.specs.Elements.{method_in}
use Rattle.type_rules.specs.Joining.{any, differs}
use Rattle.type_rules.proofs.JoinLemmas.{any_left}
use Rattle.type_rules.proofs.differing.differs_among.Given as goal

abbrev pub invariant-loop-i : goal.invariant-loop-i
invariant-loop-i l = (l.found || any_left (differs (method_in l.s l.m)) (method_in l.s) l.others l.i) ≡ any (differs (method_in l.s l.m)) (map (method_in l.s) l.others)
