use Rattle.std.proofs.Common.{◌≡◌, ℕ, ◌<◌, Some, slice_get}
use Rattle.type_model.specs.declared.term.TypeId.{TypeId}
use Rattle.type_model.specs.GoTypes.{type_at}
use Rattle.type_model.specs.Tables.{types_in, declarations_in}
use Rattle.export_text.specs.Listing.{AreListed, AreNamedOnce, CanBeListed}
use Rattle.export_text.proofs.listing.own_types.Given as goal

abbrev pub invariant-loop-k : goal.invariant-loop-k
invariant-loop-k l =
    record {
      are : AreListed l.table l.path l.ids l.k l.types.items;
      once : AreNamedOnce l.types.items;
      can : (j : ℕ) (id : TypeId) → j < l.k → slice_get l.ids j ≡ Some id → CanBeListed (declarations_in l.table) l.path (type_at (types_in l.table) id);
    }
