-- A search over the parts of a type: each type that is met is noted and listed once, and so are the parts of those that are listed and not fit.
use Rattle.std.specs.Prelude.{◌≡◌, ◌⊎◌, ℕ, ◌<◌, ◌++◌, Bool, true, false, List, [], ◌∷◌, Some, cond, nat_eq, slice_get}
use Rattle.std.specs.List.{Contains}
use Rattle.std.specs.HashSet.{HashSet, contains_by}
use Rattle.type_model.specs.declared.table.TypeTable.{TypeTable}
use Rattle.type_model.specs.GoTypes.{GoType}
use Rattle.type_model.specs.Tables.{count, declarations_in}
use Rattle.vet_printf.specs.declared.verb.Class.{Class}
use Rattle.vet_printf.specs.Fitting.{is_parted_type, parts_in, IsFit, Fails}
use Rattle.vet_printf.specs.InTable.{ty}

-- whether the number is noted
abbrev pub has : {S : Type 0} → HashSet ℕ S → ℕ → Bool
has met n = contains_by (λ key. nat_eq n key) met

-- a type is noted and listed, where it wasn't yet
pub record IsVisited (at : ℕ) (met : ℕ → Bool) (list : List ℕ) (new_met : ℕ → Bool) (new_list : List ℕ) : Type 0 where
  pub met_same : met at ≡ true → (n : ℕ) → new_met n ≡ met n
  pub list_same : met at ≡ true → new_list ≡ list
  pub met_more : met at ≡ false → (n : ℕ) → new_met n ≡ cond (nat_eq at n) true (met n)
  pub list_more : met at ≡ false → new_list ≡ list ++ at ∷ []

-- the first so many of these types were visited
pub record AreVisited (ids : List ℕ) (many : ℕ) (met : ℕ → Bool) (list : List ℕ) (new_met : ℕ → Bool) (new_list : List ℕ) : Type 0 where
  pub kept : (n : ℕ) → met n ≡ true → new_met n ≡ true
  pub each : (k n : ℕ) → k < many → slice_get ids k ≡ Some n → new_met n ≡ true
  pub more : List ℕ
  pub grown : new_list ≡ list ++ more
  pub from : (n : ℕ) → Contains more n → Contains ids n
  pub listed : (n : ℕ) → new_met n ≡ true → (met n ≡ true) ⊎ Contains more n

-- a part of a type by which that fails, if the part does
pub record IsFailingPart (t : TypeTable) (class : Class) (here n : ℕ) : Type 0 where
  pub low : n < count t
  pub leads : Fails (declarations_in t) class (ty t n) → Fails (declarations_in t) class (ty t here)

-- what was noted stays so, and what is listed now are such parts
pub record IsGrown (t : TypeTable) (class : Class) (here : ℕ) (met : ℕ → Bool) (list : List ℕ) (new_met : ℕ → Bool) (new_list : List ℕ) : Type 0 where
  pub kept : (n : ℕ) → met n ≡ true → new_met n ≡ true
  pub more : List ℕ
  pub grown : new_list ≡ list ++ more
  pub from : (n : ℕ) → Contains more n → IsFailingPart t class here n
  pub listed : (n : ℕ) → new_met n ≡ true → (met n ≡ true) ⊎ Contains more n

-- the type is fit, or has parts, which are noted
abbrev pub IsFollowed : TypeTable → Class → (ℕ → Bool) → GoType → Type 0
IsFollowed t class met of = IsFit (declarations_in t) class of
    ⊎ ((is_parted_type (declarations_in t) of ≡ true) × ((part : GoType) → Contains (parts_in (declarations_in t) of) part → (n : ℕ) × (met n ≡ true) × (ty t n ≡ part)))

-- the type fails by itself, or is followed
pub record IsStep (t : TypeTable) (class : Class) (here : ℕ) (met : ℕ → Bool) (b : Bool) : Type 0 where
  pub failing : b ≡ true → Fails (declarations_in t) class (ty t here)
  pub other : b ≡ false → IsFollowed t class met (ty t here)

-- What is listed is of the table, and where it fails, so does the type where the search began; those before `next` are followed. What is noted is
-- listed.
pub record IsSearch (t : TypeTable) (class : Class) (start : ℕ) (met : ℕ → Bool) (list : List ℕ) (next : ℕ) : Type 0 where
  pub begun : met start ≡ true
  pub within : (n : ℕ) → Contains list n → n < count t
  pub sound : (n : ℕ) → Contains list n → Fails (declarations_in t) class (ty t n) → Fails (declarations_in t) class (ty t start)
  pub listed : (n : ℕ) → met n ≡ true → Contains list n
  pub followed : (k n : ℕ) → k < next → slice_get list k ≡ Some n → IsFollowed t class met (ty t n)
