-- A search over what a type holds: each type that is met is noted and listed once, and so is what those hold that are listed.
use Rattle.std.specs.Prelude.{◌≡◌, ◌⊎◌, ℕ, ◌<◌, ◌++◌, Bool, true, false, List, [], ◌∷◌, Option, Some, None, cond, map, nat_eq, slice_get}
use Rattle.std.specs.List.{Contains}
use Rattle.std.specs.Option.{option_to_list}
use Rattle.std.specs.HashSet.{HashSet, contains_by}
use Rattle.type_model.specs.declared.term.TypeId.{TypeId}
use Rattle.type_model.specs.declared.term.TypeName.{TypeName}
use Rattle.type_model.specs.declared.term.Field.{Field}
use Rattle.type_model.specs.declared.term.Term.{Term}
use Rattle.type_model.specs.declared.term.Term.TheVariants.{Defined, Array, Struct}
use Rattle.type_model.specs.declared.table.TypeTable.{TypeTable}
use Rattle.type_model.specs.GoTypes.{GoType, DefinedType, type_at}
use Rattle.type_model.specs.Declarations.{Meets, held}
use Rattle.type_model.specs.Tables.{types_in, count, declarations_in}
use Rattle.type_growth.specs.Growth.{IsKnown}
use Rattle.rel_growth.specs.Compare.{NeedsToCompare}

-- the types that a term holds: those of the fields, that of the elements, of a name its underlying type
abbrev pub held_in : Term → Option TypeId → List TypeId
held_in (Defined name) under = option_to_list under
held_in (Array size of) under = of ∷ []
held_in (Struct fields) under = map (λ (f : Field). f.of) fields
held_in term under = []

-- whether the number is noted
abbrev pub has : {S : Type 0} → HashSet ℕ S → ℕ → Bool
has met n = contains_by (λ key. nat_eq n key) met

-- a type is noted and listed, where it wasn't yet
pub record IsVisited (id : TypeId) (met : ℕ → Bool) (list : List TypeId) (new_met : ℕ → Bool) (new_list : List TypeId) : Type 0 where
  pub met_same : met id.0 ≡ true → (n : ℕ) → new_met n ≡ met n
  pub list_same : met id.0 ≡ true → new_list ≡ list
  pub met_more : met id.0 ≡ false → (n : ℕ) → new_met n ≡ cond (nat_eq id.0 n) true (met n)
  pub list_more : met id.0 ≡ false → new_list ≡ list ++ id ∷ []

-- the first so many of these types were visited
pub record AreVisited (ids : List TypeId) (many : ℕ) (met : ℕ → Bool) (list : List TypeId) (new_met : ℕ → Bool) (new_list : List TypeId) : Type 0 where
  pub kept : (n : ℕ) → met n ≡ true → new_met n ≡ true
  pub each : (k : ℕ) (id : TypeId) → k < many → slice_get ids k ≡ Some id → new_met id.0 ≡ true
  pub more : List TypeId
  pub grown : new_list ≡ list ++ more
  pub from : (id : TypeId) → Contains more id → Contains ids id
  pub listed : (n : ℕ) → new_met n ≡ true → (met n ≡ true) ⊎ ((id : TypeId) × Contains more id × (id.0 ≡ n))

-- the type passes, and what it holds is noted
pub record IsFollowed (Passes : GoType → Type 0) (t : TypeTable) (met : ℕ → Bool) (of : GoType) : Type 0 where
  pub passes : Passes of
  pub parts : (part : GoType) → Contains (held (declarations_in t) of) part → (id : TypeId) × (met id.0 ≡ true) × (type_at (types_in t) id ≡ part)

-- What is listed is of the table, and what is met from it is met from where the search began; those before `next` are followed. What
-- is noted is listed.
pub record IsSearch (Passes : GoType → Type 0) (t : TypeTable) (start : TypeId) (met : ℕ → Bool) (list : List TypeId) (next : ℕ) : Type 0 where
  pub begun : met start.0 ≡ true
  pub within : (id : TypeId) → Contains list id → id.0 < count t
  pub sound : (id : TypeId) → Contains list id → (o : TypeName) → Meets (declarations_in t) o (type_at (types_in t) id) → Meets (declarations_in t) o (type_at (types_in t) start)
  pub listed : (n : ℕ) → met n ≡ true → (id : TypeId) × Contains list id × (id.0 ≡ n)
  pub followed : (k : ℕ) (id : TypeId) → k < next → slice_get list k ≡ Some id → IsFollowed Passes t met (type_at (types_in t) id)

-- the type is known
abbrev pub IsKnownIn : TypeTable → GoType → Type 0
IsKnownIn t of = IsKnown (declarations_in t) of

-- the type is another than that of this number
abbrev pub IsOther : TypeTable → TypeId → GoType → Type 0
IsOther t id of = of ≡ type_at (types_in t) id → ⊥

-- the type of a name that is met from the type and isn't declared
abbrev pub IsMetMissing : TypeTable → GoType → TypeId → Type 0
IsMetMissing t of id = (o : TypeName) × (id.0 < count t) × (type_at (types_in t) id ≡ DefinedType o) × NeedsToCompare (declarations_in t) of o
