use Rattle.std.proofs.Common.{◌≡◌, List, map}
use Rattle.type_model.specs.GoTypes.{MethodsBelow}
use Rattle.type_model.specs.Parts.{GoMethod}
use Rattle.type_model.specs.Tables.{count}
use Rattle.unit_read.specs.Subjects.{unit_of}
use Rattle.rule_words.specs.Scenes.{sight, type_in}
use Rattle.rule_words.proofs.PartLemmas.{Rests}
use Rattle.type_rules.specs.Elements.{method_in}
use Rattle.decl_rules.specs.Methods.{method_ask, all_of}
use Rattle.decl_rules.proofs.GiveLemmas.{Gathered}
use Rattle.decl_rules.proofs.methods.add_methods.Given as goal

abbrev pub invariant-loop-i : goal.invariant-loop-i
invariant-loop-i l = record {
  gathered : Gathered (sight l.s) (method_ask (unit_of l.u) (type_in l.s l.under)) l.methods l.i (map (method_in l.s) l.out.items);
  below : MethodsBelow (count l.s.table) l.out.items;
}
