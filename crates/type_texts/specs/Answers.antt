-- What a function that may refuse what can't be spelled says of a condition: where it answers, the condition holds; where it
-- refuses, it doesn't; want of memory says nothing.
use Rattle.std.specs.Prelude.{Result, Ok, Err}
use Rattle.gv_bytes.specs.declared.unread.Unread.{Unread}
use Rattle.gv_bytes.specs.declared.unread.Unread.TheVariants as unread

-- what a refusal says of the condition
abbrev pub Denies : Unread → Type 0 → Type 0
Denies unread.Memory P = Unit {0}
Denies unread.Unspelled P = P → ⊥

abbrev pub Tells : {X : Type 0} → Type 0 → Result X Unread → Type 0
Tells P (Ok x) = P
Tells P (Err e) = Denies e P
