-- Counts that rise in turn, and writes that stall.
use Rattle.std.proofs.Common.{ℕ, zero, suc, ◌+◌, ◌<◌, ◌≤◌, ◌≡◌, List, [], ◌∷◌, length, Result, Ok, Err, refl, arith}
use Rattle.gv_base.specs.declared.fault.Failed.{Failed}
use Rattle.gv_base.specs.Counts.{RoseBy}
use Rattle.gv_base.specs.Sinks.{stalls_of}

pub rose-on : (a b c n m : ℕ) → RoseBy n a b → RoseBy m b c → RoseBy (n + m) a c
rose-on a b c n m h k = omega (arith, h, k)

-- a write that takes something, or is asked to take nothing, doesn't stall
pub stalls-moved : (n : ℕ) (bytes : List ℕ) (a b : ℕ) → 0 < n → RoseBy (stalls_of {E = Failed} (Ok n) bytes) a b → RoseBy 0 a b
stalls-moved zero bytes a b some h = absurd (omega (arith, some))
stalls-moved (suc n) bytes a b some h = h

pub stalls-whole : (bytes : List ℕ) → stalls_of {E = Failed} (Ok (length bytes)) bytes ≡ 0
stalls-whole [] = refl
stalls-whole (b ∷ bs) = refl

pub stalls-none : (bytes : List ℕ) → 0 < length bytes → stalls_of {E = Failed} (Ok 0) bytes ≡ 1
stalls-none [] some = absurd (omega (arith, some))
stalls-none (b ∷ bs) some = refl
