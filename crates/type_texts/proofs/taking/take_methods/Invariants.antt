use Rattle.std.proofs.Common.{◌≡◌, ◌-◌, ◌<◌, map}
use Rattle.type_model.specs.declared.term.Method.{Method}
use Rattle.type_model.specs.GoTypes.{MethodsBelow, NoMethod}
use Rattle.type_model.specs.Parts.{method_of}
use Rattle.type_model.specs.Tables.{types_in, count}
use Rattle.type_texts.specs.Building.{and_method, method_off, methods_off, each_off}
use Rattle.type_texts.specs.Values.{parts_in, Stand}
use Rattle.type_texts.proofs.ValueLaws.{with_front}
use Rattle.type_texts.proofs.taking.take_methods.Given as goal

abbrev pub invariant-loop : goal.invariant-loop
invariant-loop l =
    record {
      is : with_front and_method (map (λ (x : Method). method_of (types_in l.table) x) l.methods.items) (each_off NoMethod and_method method_off (l.count - l.counter) (parts_in (types_in l.table) l.values.items)) ≡ methods_off l.count (parts_in (types_in l.table) l.fn.values.items);
      below : MethodsBelow (count l.table) l.methods.items;
      stand : Stand (count l.table) l.values.items;
    }
