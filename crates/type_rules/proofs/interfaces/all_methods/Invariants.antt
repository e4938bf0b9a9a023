use Rattle.std.proofs.Common.{◌≡◌, map}
use Rattle.package_objects.specs.Declares.{gather}
use Rattle.type_model.specs.GoTypes.{MethodsBelow}
use Rattle.type_model.specs.Tables.{count}
use Rattle.unit_read.specs.Subjects.{unit_of}
use Rattle.rule_words.specs.Scenes.{parts_in}
use Rattle.type_rules.specs.Elements.{method_in}
use Rattle.type_rules.specs.Interfaces.{nth_methods}
use Rattle.type_rules.proofs.interfaces.all_methods.Given as goal

abbrev pub invariant-loop-i : goal.invariant-loop-i
invariant-loop-i l = record {
  are : map (method_in l.s) l.out.items ≡ gather (nth_methods (unit_of l.u) l.file l.node (parts_in l.s l.parts)) l.i;
  below : MethodsBelow (count l.s.table) l.out.items;
}
