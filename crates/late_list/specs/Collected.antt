-- What a list of refusals gains from some things.
use Rattle.std.specs.Prelude.{List}
use Rattle.std.specs.List.{Contains}
use Rattle.late_list.specs.declared.late.LateFault.{LateFault}

-- what one of these gives
abbrev pub SomeOf : {X : Type 0} → List X → (X → LateFault → Type 0) → LateFault → Type 0
SomeOf {X} xs P x = (c : X) × Contains xs c × P c x
