-- The declaration around a node, one step up.
use Rattle.std.proofs.Common.{◌≡◌, ◌<◌, ◌-◌, ℕ, zero, suc, Bool, List, Option, Some, None, refl, sym, ap, ◌∙◌, arith}
use Rattle.std.specs.Prelude.{option_and_then}
use Rattle.go_tree.specs.declared.tree.NodeKind.{NodeKind}
use Rattle.object_order.specs.Spots.{place}
use Rattle.package_objects.specs.Declares.{kind_at}
use Rattle.unit_read.specs.declared.place.Place.{Place}
use Rattle.unit_read.specs.Units.{Unit, nodes_at, place_at}
use Rattle.vet_printf.specs.Forwards.{above_by, above_at, above_from}

above_step : (u : Unit) (f most n : ℕ) → 0 < most → above_from u f most n ≡ option_and_then (above_at (above_from u f (most - 1)) (nodes_at u f)) (place_at u (place f n))
above_step u f zero n high = absurd (omega (arith, high))
above_step u f (suc m) n high = let same : m ≡ suc m - 1 = omega arith in ap (λ k. option_and_then (above_at (above_from u f k) (nodes_at u f)) (place_at u (place f n))) same

pub above_some : (u : Unit) (f most n : ℕ) (p : Place) (what : NodeKind) → 0 < most → place_at u (place f n) ≡ Some p → what ≡ kind_at (nodes_at u f) p.around → above_from u f most n ≡ above_by (above_from u f (most - 1)) p.around what
above_some u f most n p what high there is =
    above_step u f most n high ∙ (ap (λ (o : Option Place). option_and_then (above_at (above_from u f (most - 1)) (nodes_at u f)) o) there ∙ ap (λ k. above_by (above_from u f (most - 1)) p.around k) (sym is))

pub above_none : (u : Unit) (f most n : ℕ) → 0 < most → place_at u (place f n) ≡ None → above_from u f most n ≡ None
above_none u f most n high none = above_step u f most n high ∙ ap (λ (o : Option Place). option_and_then (above_at (above_from u f (most - 1)) (nodes_at u f)) o) none
