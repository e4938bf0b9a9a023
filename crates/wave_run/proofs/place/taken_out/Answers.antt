use Rattle.std.proofs.Common.{rules, ◌≡◌, None, ◌∷◌}
use Rattle.wave_run.proofs.Placing.{none_follows}
use Rattle.wave_run.proofs.place.taken_out.Goals as goal

pub unreachable-requires : goal.unreachable-requires
unreachable-requires g c =
    let next : c.loop-slot.slot-iterator.rest.items ≡ None ∷ c.next.new.self.rest.items = search rules in
    none_follows _ _ _ _ c.requires c.loop-slot.invariant next
