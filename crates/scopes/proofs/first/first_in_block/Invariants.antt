use Rattle.std.proofs.Common.{◌≡◌, ℕ, ◌<◌, Some, false, length, slice_get, slice_index_or, take}
use Rattle.std.specs.List.{list_any}
use Rattle.std.specs.HashSet.{contains}
use Rattle.scopes.specs.declared.visible.Declaration.{Declaration}
use Rattle.scopes.proofs.FirstLemmas.{slot_eq, has_slot, flag_of}
use Rattle.scopes.proofs.first.first_in_block.Given as goal

abbrev pub invariant-loop-declaration : goal.invariant-loop-declaration
invariant-loop-declaration l = record {
  slots : (q : ℕ × ℕ) → contains slot_eq l.seen q ≡ list_any (has_slot q) (take l.declaration-index l.declarations);
  count : length l.first.items ≡ l.declaration-index;
  so_far : (k : ℕ) (d : Declaration) → k < l.declaration-index → slice_get l.declarations k ≡ Some d → slice_index_or l.first.items k false ≡ flag_of l.declarations k d;
}
