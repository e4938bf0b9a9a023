use Rattle.std.proofs.Common.{◌≡◌, map}
use Rattle.package_objects.specs.Declares.{gather}
use Rattle.type_model.specs.GoTypes.{FieldsBelow}
use Rattle.type_model.specs.Tables.{count}
use Rattle.unit_read.specs.Subjects.{unit_of}
use Rattle.rule_words.specs.Scenes.{parts_in}
use Rattle.type_rules.specs.Members.{field_in}
use Rattle.type_rules.specs.Structs.{nth_fields}
use Rattle.type_rules.proofs.structs.all_fields.Given as goal

abbrev pub invariant-loop-i : goal.invariant-loop-i
invariant-loop-i l = record {
  are : map (field_in l.s) l.out.items ≡ gather (nth_fields (unit_of l.u) l.file l.node (parts_in l.s l.parts)) l.i;
  below : FieldsBelow (count l.s.table) l.out.items;
}
