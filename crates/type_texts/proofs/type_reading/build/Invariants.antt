use Rattle.std.proofs.Common.{◌≡◌, Some}
use Rattle.std.specs.Prelude.{length}
use Rattle.type_model.specs.Tables.{IsTable, Grown, types_in, count}
use Rattle.type_texts.specs.Building.{built, built_over}
use Rattle.type_texts.specs.Values.{parts_in, Stand}
use Rattle.type_texts.proofs.type_reading.build.Given as goal

abbrev pub invariant-loop-piece : goal.invariant-loop-piece
invariant-loop-piece l =
    record {
      grown : Grown l.fn.table l.table;
      table : IsTable l.table;
      is : built_over l.row.items (Some (parts_in (types_in l.table) l.values.items)) ≡ built l.fn.row.items;
      stand : Stand (count l.table) l.values.items;
    }

abbrev pub decreases-loop-piece : goal.decreases-loop-piece
decreases-loop-piece l = length l.row.items
