-- A node that is looked at down to so many levels.
use Rattle.std.proofs.Common.{◌≡◌, ℕ, suc, ap, false}
use Rattle.mark_walk.specs.Asks.{done, bind}
use Rattle.unit_read.specs.Units.{Unit}
use Rattle.builtin_rules.specs.Quiet.{heard_ask, parts_at, then_parts, quiet_within}

pub within_none : (u : Unit) (block file levels n : ℕ) → levels ≡ 0 → quiet_within u block file levels n ≡ done false
within_none u block file levels n e = ap (λ l. quiet_within u block file l n) e

pub within_more : (u : Unit) (block file levels less n : ℕ) → levels ≡ suc less
    → quiet_within u block file levels n ≡ bind (heard_ask u block file n) (then_parts (quiet_within u block file less) (parts_at u file n))
within_more u block file levels less n e = ap (λ l. quiet_within u block file l n) e
