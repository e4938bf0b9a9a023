use Rattle.std.proofs.Common.{◌≡◌, ◌++◌, map}
use Rattle.type_model.specs.GoTypes.{AreBelow}
use Rattle.type_model.specs.Tables.{count}
use Rattle.rule_words.specs.Scenes.{type_in}
use Rattle.type_rules.specs.Signatures.{repeated_type}
use Rattle.type_rules.proofs.params.add_types.Given as goal

abbrev pub invariant-loop-i : goal.invariant-loop-i
invariant-loop-i l = record {
  «is» : map (type_in l.s) l.out.items ≡ map (type_in l.s) l.fn.out.items ++ repeated_type (type_in l.s l.of) l.i;
  below : AreBelow (count l.s.table) l.out.items;
}
