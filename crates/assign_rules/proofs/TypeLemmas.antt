-- Lists of types by number.
use Rattle.std.proofs.Common.{◌≡◌, ◌<◌, ℕ, zero, suc, List, [], ◌∷◌, slice_get, option_map, refl}
use Rattle.std.proofs.lemmas.List.Elements.{All-head, All-tail}
use Rattle.type_model.specs.declared.term.TypeId.{TypeId}
use Rattle.type_model.specs.GoTypes.{AreBelow}
use Rattle.type_model.specs.Tables.{count}
use Rattle.typed_marks.specs.declared.state.State.{State}
use Rattle.rule_words.specs.Scenes.{type_in, MayBeTypeOf}
use Rattle.variable_rules.specs.InCode.{types_of}

pub nth_type : (s : State) (ids : List TypeId) (i : ℕ) → option_map (type_in s) (slice_get ids i) ≡ slice_get (types_of s ids) i
nth_type s [] i = refl
nth_type s (id ∷ ids) zero = refl
nth_type s (id ∷ ids) (suc i) = nth_type s ids i

pub nth_below : (s : State) (ids : List TypeId) (i : ℕ) → AreBelow (count s.table) ids → MayBeTypeOf s (slice_get ids i)
nth_below s [] i below = tt
nth_below s (id ∷ ids) zero below = All-head (λ (x : TypeId). x.0 < count s.table) id ids below
nth_below s (id ∷ ids) (suc i) below = nth_below s ids i (All-tail (λ (x : TypeId). x.0 < count s.table) id ids below)
