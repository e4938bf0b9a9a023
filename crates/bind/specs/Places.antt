-- The place of a name in a list.
use Rattle.std.specs.Prelude.{ℕ, suc, cond, List, [], ◌∷◌, Option, Some, None, bytes_eq}
use denote.Ref.{Bor}
use Rattle.std.specs.HashMap.{HashMap, get_by}

-- the place that a name has
abbrev pub placed : {S : Type 0} → HashMap (Bor (List ℕ)) ℕ S → List ℕ → Option ℕ
placed places name = get_by (λ key. bytes_eq name key.now) places

-- the first place of a name in a list whose places are counted from one on
abbrev pub place_from : ℕ → List (List ℕ) → List ℕ → Option ℕ
place_from i [] name = None
place_from i (x ∷ xs) name = cond (bytes_eq x name) (Some i) (place_from (suc i) xs name)
