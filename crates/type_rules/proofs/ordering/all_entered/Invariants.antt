use Rattle.std.proofs.Common.{◌≡◌, [], map, drop}
use Rattle.type_rules.specs.Elements.{method_in, entries_in, AreEntries}
use Rattle.type_rules.specs.Interfaces.{entered}
use Rattle.type_rules.proofs.ordering.all_entered.Given as goal

abbrev pub invariant-loop-i : goal.invariant-loop-i
invariant-loop-i l = record {
  «is» : entered (entries_in l.s l.names.entries) (map (method_in l.s) (drop l.i l.methods)) ≡ entered [] (map (method_in l.s) l.methods);
  entries : AreEntries l.s l.names.entries;
}
