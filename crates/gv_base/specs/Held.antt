-- The bytes that are held.
use Rattle.std.specs.Prelude.{ℕ, List}
use Rattle.std.specs.Arc.{arc_slice_items}
use Rattle.gv_base.specs.declared.held.Held.{Held}
use Rattle.gv_base.specs.declared.held.Held.TheVariants.{Own, Counted}

abbrev pub held_bytes : Held → List ℕ
held_bytes (Own items) = items.items
held_bytes (Counted items) = arc_slice_items items
