-- What has no number is no function that never returns.
use Rattle.std.proofs.Common.{◌≡◌, ℕ, Bool, true, false, if◌then◌else◌, Option, Some, None, is_some, option_map, slice_get, refl, ap, inl, inr}
use Rattle.std.specs.Prelude.{option_and_then}
use Rattle.least.specs.Tables.{Member}
use Rattle.never_returns.specs.Admits.{Body, Admits}
use Rattle.own_functions.specs.Functions.{functions, first_of, is_own, number, node_in}
use Rattle.own_functions.proofs.NameLemmas.{both_true}
use Rattle.unit_read.specs.Units.{Unit}
use Rattle.vet_never.specs.Listed.{is_listed_name, listed_in}
use Rattle.vet_never.specs.Never.{Around, body_at, body_of, bodies_in}

no_body : (u : Unit) (a : Around) (m : Member) → number 0 u m ≡ None → bodies_in u a m ≡ None
no_body u a m e = by (is_own 0 u m) e where
  by : (b : Bool) → (if b then first_of u m.name else None) ≡ None → (if b then body_of u a m else None) ≡ None
  by true e = ap (λ (o : Option ℕ). option_and_then (body_at u a) (option_map node_in (option_and_then (slice_get (functions u)) o))) e
  by false e = refl

not_listed : (u : Unit) (m : Member) → number 0 u m ≡ None → listed_in u m ≡ true → ⊥
not_listed u m none e = differ (is_some (number 0 u m)) (ap (λ (o : Option ℕ). is_some o) none) (both_true (is_listed_name u.path m.name) (is_some (number 0 u m)) e).1 where
  differ : (b : Bool) → b ≡ false → b ≡ true → ⊥
  differ b p q = cc

pub unadmitted : (u : Unit) (a : Around) (N : Member → Bool) (m : Member) → number 0 u m ≡ None → Admits (listed_in u) (bodies_in u a) N m → ⊥
unadmitted u a N m none (inl listed) = not_listed u m none listed
unadmitted u a N m none (inr (b, there, never)) = differ (bodies_in u a m) b (no_body u a m none) there where
  differ : (o : Option Body) (b : Body) → o ≡ None → o ≡ Some b → ⊥
  differ o b p q = cc
