use Rattle.std.proofs.Common.{◌≡◌, ◌||◌, map}
use Rattle.type_rules.specs.Elements.{method_in}
use Rattle.type_rules.specs.Joining.{any, differs_among}
use Rattle.type_rules.proofs.JoinLemmas.{any_left}
use Rattle.type_rules.proofs.differing.clash.Given as goal

abbrev pub invariant-loop-i : goal.invariant-loop-i
invariant-loop-i l =
    (l.found || any_left (differs_among (map (method_in l.s) l.others)) (method_in l.s) l.methods l.i) ≡ any (differs_among (map (method_in l.s) l.others)) (map (method_in l.s) l.methods)
