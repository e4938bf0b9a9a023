-- What passes know, and how it is cut and put together.
use Rattle.std.specs.Prelude.{ℕ, ◌+◌, ◌-◌, List, [], ◌++◌}
use Rattle.wave_run.specs.declared.view.View.{View}

abbrev pub hand : ℕ → List ℕ → View
hand parts drawn = record { parts = parts; drawn = drawn }

-- A split gives so many parts away: the first view keeps its list and the other parts,
abbrev pub left_with : ℕ → View → View
left_with parts v = hand (v.parts - parts) v.drawn

-- and the second has those parts and an empty list.
abbrev pub right_with : ℕ → View
right_with parts = hand parts []

-- Where two views meet, one gets both lists and both parts,
abbrev pub met : View → View → View
met v w = hand (v.parts + w.parts) (v.drawn ++ w.drawn)

-- and the other is spent.
abbrev pub spent : View
spent = hand 0 []
