use Rattle.std.proofs.Common.{◌≡◌, ◌++◌, map}
use Rattle.package_objects.specs.Declares.{gather}
use Rattle.type_model.specs.GoTypes.{FieldsBelow}
use Rattle.type_model.specs.Tables.{count}
use Rattle.unit_read.specs.Subjects.{unit_of}
use Rattle.rule_words.specs.Scenes.{type_in}
use Rattle.type_rules.specs.Members.{field_in}
use Rattle.type_rules.specs.Structs.{nth_field}
use Rattle.type_rules.proofs.structs.add_names.Given as goal

abbrev pub invariant-loop-i : goal.invariant-loop-i
invariant-loop-i l = record {
  «is» : map (field_in l.s) l.out.items ≡ map (field_in l.s) l.fn.out.items ++ gather (nth_field (unit_of l.u) l.file l.nodes l.node (type_in l.s l.of)) l.i;
  below : FieldsBelow (count l.s.table) l.out.items;
}
