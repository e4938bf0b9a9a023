use Rattle.std.proofs.Common.{take}
use Rattle.package_faces.specs.Interfaces.{faces_of, AreInterfacesIn}
use Rattle.type_model.specs.Tables.{IsTable, Grown, count, types_in}
use Rattle.action_graph.specs.Judging.{AreInterfaces}
use Rattle.go_kit.specs.Keeping.{AreKnown}
use Rattle.go_kit.proofs.env.read_env.Given as goal

abbrev pub invariant-loop-pair : goal.invariant-loop-pair
invariant-loop-pair l =
    record {
      table : IsTable l.table;
      known : AreKnown l.table l.known;
      grown : Grown l.fn.table l.table;
      read : AreInterfaces (take l.pair-index l.env) (faces_of (types_in l.table) l.list.items);
      within : AreInterfacesIn (count l.table) (types_in l.table) l.list.items;
    }
