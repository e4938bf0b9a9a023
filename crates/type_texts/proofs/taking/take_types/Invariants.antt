use Rattle.std.proofs.Common.{◌≡◌, ◌-◌, ◌<◌, map}
use Rattle.type_model.specs.declared.term.TypeId.{TypeId}
use Rattle.type_model.specs.GoTypes.{AndType, AreBelow, NoType, type_at}
use Rattle.type_model.specs.Tables.{types_in, count}
use Rattle.type_texts.specs.Building.{type_off, types_off, each_off}
use Rattle.type_texts.specs.Values.{parts_in, Stand}
use Rattle.type_texts.proofs.ValueLaws.{with_front}
use Rattle.type_texts.proofs.taking.take_types.Given as goal

abbrev pub invariant-loop : goal.invariant-loop
invariant-loop l =
    record {
      is : with_front AndType (map (λ (x : TypeId). type_at (types_in l.table) x) l.ids.items) (each_off NoType AndType type_off (l.count - l.counter) (parts_in (types_in l.table) l.values.items)) ≡ types_off l.count (parts_in (types_in l.table) l.fn.values.items);
      below : AreBelow (count l.table) l.ids.items;
      stand : Stand (count l.table) l.values.items;
    }
