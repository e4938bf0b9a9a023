-- More members admit more; only those to whom a function hands on count.
use Rattle.std.proofs.Common.{◌≡◌, inl, inr, ℕ, Bool, true, List, sym, ◌∙◌}
use Rattle.least.specs.Least.{IsMonotone}
use Rattle.least.specs.Staged.{IsLocal}
use Rattle.least.specs.Tables.{Member, home}
use Rattle.vet_printf.specs.Wrappers.{Admits, SeeTheirCallees}

still_admitted : (listed : Member → Bool) (forwards : Member → Member → Type 0) (M N : Member → Bool) (m : Member)
    → ((g : Member) → forwards m g → M g ≡ true → N g ≡ true) → Admits listed forwards M m → Admits listed forwards N m
still_admitted listed forwards M N m h (inl is) = inl is
still_admitted listed forwards M N m h (inr (g, there, is)) = inr (g, there, h g there is)

pub monotone : (listed : Member → Bool) (forwards : Member → Member → Type 0) → IsMonotone (Admits listed forwards)
monotone listed forwards M N m within a = still_admitted listed forwards M N m (λ g there. within g) a

pub local : (env : List ℕ → List ℕ → Type 0) (listed : Member → Bool) (forwards : Member → Member → Type 0) → SeeTheirCallees env forwards → IsLocal home env (Admits listed forwards)
local env listed forwards see M N m same a = still_admitted listed forwards M N m (λ g there is. sym (same g (see m g there)) ∙ is) a
