use Rattle.std.proofs.Common.{◌≡◌, ◌++◌}
use Rattle.type_rules.specs.Elements.{listed_methods}
use Rattle.type_rules.proofs.ordering.listed.Given as goal

abbrev pub invariant-loop-name : goal.invariant-loop-name
invariant-loop-name l = l.out.items ++ listed_methods l._name-iterator ≡ listed_methods l.names.entries
