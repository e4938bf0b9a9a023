-- The first label of each name in each function, by function and name.
use Rattle.std.specs.Prelude.{ℕ, ◌<◌, ◌≡◌, ◌⊎◌, ◌&&◌, List, Option, Some, None, unwrap_or, bytes_eq, nat_eq}
use denote.Ref.{Bor}
use Rattle.std.specs.HashMap.{HashMap, get_by}

-- the label that is kept for a function and a name
abbrev pub found : {S : Type 0} → HashMap (ℕ × Bor (List ℕ)) ℕ S → ℕ → List ℕ → Option ℕ
found table function name = get_by (λ key. nat_eq function key.0 && bytes_eq name key.1.now) table

-- If n is a label, it is kept for its function and its name, where none was. All else stays.
abbrev pub Adds : (ℕ → List ℕ → Type 0) → (ℕ → ℕ) → ℕ → (ℕ → List ℕ → Option ℕ) → (ℕ → List ℕ → Option ℕ) → Type 0
Adds Is function n old new = (f : ℕ) (q : List ℕ) → (Is n q × (function n ≡ f) × (new f q ≡ Some (unwrap_or (old f q) n))) ⊎ ((Is n q → function n ≡ f → ⊥) × (new f q ≡ old f q))

-- the first of the labels below i of a name in a function, or none where there is none
abbrev pub FirstBelow : (ℕ → List ℕ → Type 0) → (ℕ → ℕ) → ℕ → ℕ → List ℕ → Option ℕ → Type 0
FirstBelow Is function i f q None = (e : ℕ) → e < i → Is e q → function e ≡ f → ⊥
FirstBelow Is function i f q (Some l) = Is l q × (function l ≡ f) × (l < i) × ((e : ℕ) → e < l → Is e q → function e ≡ f → ⊥)

abbrev pub AreFirst : (ℕ → List ℕ → Type 0) → (ℕ → ℕ) → ℕ → (ℕ → List ℕ → Option ℕ) → Type 0
AreFirst Is function i table = (f : ℕ) (q : List ℕ) → FirstBelow Is function i f q (table f q)
