-- Chains, one step further.
use Rattle.std.proofs.Common.{◌≡◌, ℕ, suc, option_and_then, ap}
use Rattle.object_order.specs.Spots.{place}
use Rattle.unit_read.specs.Units.{Unit, place_at}
use Rattle.vet_simple.specs.Bools.{around_by, around_from}

pub around_more : (u : Unit) (f most less n : ℕ) → most ≡ suc less → around_from u f most n ≡ option_and_then (around_by u f (around_from u f less)) (place_at u (place f n))
around_more u f most less n e = ap (λ l. around_from u f l n) e
