-- What a turn that goes on leaves: all that was given is answered or pending.
use Rattle.std.proofs.Common.{◌≡◌, ℕ, ◌+◌, ◌-◌, List, [], ◌++◌, drop, length, Option, None, Some, ap, ◌∙◌, arith}
use Rattle.std.proofs.lemmas.List.{length-append}
use Rattle.top_calls.specs.declared.stop.Stop.{Stop}

pub none-some : {X : Type 0} (stop : Stop) → ◌≡◌ {A = Option Stop} (Some stop) None → X
none-some stop e = absurd (let x : ◌≡◌ {A = Option Stop} (Some stop) None = e in cc)

-- a command was answered
pub handed-length : (at len at' : ℕ) (pending pending' command : List ℕ) → pending ≡ command ++ drop len pending → len ≡ length command → at' ≡ at + len → pending' ≡ drop len pending → at' + length pending' ≡ at + length pending + length {A = ℕ} []
handed-length at len at' pending pending' command spelled size o p =
    let l : length pending ≡ length command + length (drop len pending) = ap length spelled ∙ length-append command (drop len pending) in
    let m : length pending' ≡ length (drop len pending) = ap length p in
    omega arith

-- a piece came
pub piece-length : (at at' : ℕ) (pending pending' given : List ℕ) → pending' ≡ pending ++ given → at' ≡ at → at' + length pending' ≡ at + length pending + length given
piece-length at at' pending pending' given p o =
    let l : length pending' ≡ length pending + length given = ap length p ∙ length-append pending given in
    omega arith
