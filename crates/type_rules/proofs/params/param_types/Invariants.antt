use Rattle.std.proofs.Common.{◌≡◌, map}
use Rattle.package_objects.specs.Declares.{gather}
use Rattle.type_model.specs.GoTypes.{AreBelow}
use Rattle.type_model.specs.Tables.{count}
use Rattle.rule_words.specs.Scenes.{type_in, parts_in}
use Rattle.type_rules.specs.Signatures.{nth_types}
use Rattle.type_rules.proofs.params.param_types.Given as goal

abbrev pub invariant-loop-i : goal.invariant-loop-i
invariant-loop-i l = record {
  are : map (type_in l.s) l.out.items ≡ gather (nth_types l.nodes l.node (parts_in l.s l.parts)) l.i;
  below : AreBelow (count l.s.table) l.out.items;
}
