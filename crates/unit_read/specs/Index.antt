-- Names that are kept by their first place in a list.
use Rattle.std.specs.Prelude.{◌≡◌, ℕ, List, map, Option, Some, unwrap_or, if◌then◌else◌}
use Rattle.std.specs.HashMap.{HashMap, get_by}
use Rattle.std.specs.Str.{bytes_eq}
use denote.Ref.{Bor}

abbrev pub texts_of : List (Bor (List ℕ)) → List (List ℕ)
texts_of sources = map (λ source. source.now) sources

-- what is kept under a name
abbrev pub found : {X S : Type 0} → HashMap (Bor (List ℕ)) X S → List ℕ → Option X
found names name = get_by (λ key. bytes_eq name key.now) names

-- the value is kept under its name, unless that is taken
abbrev pub AddsName : {X S : Type 0} → HashMap (Bor (List ℕ)) X S → HashMap (Bor (List ℕ)) X S → List ℕ → X → Type 0
AddsName old new name value =
    (q : List ℕ) → found new q ≡ (if bytes_eq name q then Some (unwrap_or (found old q) value) else found old q)
