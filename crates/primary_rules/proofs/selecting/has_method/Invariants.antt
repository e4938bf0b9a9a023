use Rattle.std.proofs.Common.{◌≡◌, drop, map}
use Rattle.method_sets.specs.Members.{selector}
use Rattle.type_model.specs.Parts.{method_of}
use Rattle.type_model.specs.Tables.{types_in}
use Rattle.primary_rules.specs.Selecting.{has_method}
use Rattle.primary_rules.proofs.selecting.has_method.Given as goal

abbrev pub invariant-loop-i : goal.invariant-loop-i
invariant-loop-i l =
    has_method (selector l.name l.from) (map (method_of (types_in l.s.table)) l.methods)
    ≡ has_method (selector l.name l.from) (map (method_of (types_in l.s.table)) (drop l.i l.methods))
