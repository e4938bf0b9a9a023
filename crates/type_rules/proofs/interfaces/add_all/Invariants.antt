use Rattle.std.proofs.Common.{◌≡◌, ◌++◌, map, take}
use Rattle.type_model.specs.GoTypes.{MethodsBelow}
use Rattle.type_model.specs.Tables.{count}
use Rattle.type_rules.specs.Elements.{method_in}
use Rattle.type_rules.proofs.interfaces.add_all.Given as goal

abbrev pub invariant-loop-i : goal.invariant-loop-i
invariant-loop-i l = record {
  «is» : map (method_in l.s) l.out.items ≡ map (method_in l.s) l.fn.out.items ++ map (method_in l.s) (take l.i l.methods);
  below : MethodsBelow (count l.s.table) l.out.items;
}
