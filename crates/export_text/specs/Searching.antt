-- A search over what types lead to: each type that is met is noted and listed once, and so is what those lead to that are listed.
use Rattle.std.specs.Prelude.{◌≡◌, ◌⊎◌, ℕ, ◌<◌, ◌++◌, Bool, true, false, List, [], ◌∷◌, Option, Some, None, cond, map, nat_eq, slice_get, if◌then◌else◌}
use Rattle.std.specs.List.{Contains, flat_map}
use Rattle.std.specs.Str.{bytes_eq}
use Rattle.std.specs.HashSet.{HashSet, contains_by}
use Rattle.type_model.specs.declared.term.TypeId.{TypeId}
use Rattle.type_model.specs.declared.term.Signature.{Signature}
use Rattle.type_model.specs.declared.term.Field.{Field}
use Rattle.type_model.specs.declared.term.Method.{Method}
use Rattle.type_model.specs.declared.term.Term.{Term}
use Rattle.type_model.specs.declared.term.Term.TheVariants.{Basic, Defined, Pointer, Slice, Array, Map, Chan, Func, Struct, Interface}
use Rattle.type_model.specs.declared.table.TypeTable.{TypeTable}
use Rattle.type_model.specs.GoTypes.{GoType, type_at}
use Rattle.type_model.specs.Tables.{types_in, count, declarations_in}
use Rattle.type_model.specs.Declarations.{Declarations}
use Rattle.package_faces.specs.Reaching.{Reaches, next_types}
use Rattle.export_text.specs.Reaching.{nothing_declared}

abbrev pub signature_ids : Signature → List TypeId
signature_ids s = s.params ++ s.results

abbrev pub method_ids : Method → List TypeId
method_ids m = signature_ids m.of

abbrev pub methods_ids : List Method → List TypeId
methods_ids methods = flat_map method_ids methods

abbrev pub fields_ids : List Field → List TypeId
fields_ids fields = map (λ f. f.of) fields

-- an underlying type, and the types in the signatures of methods
abbrev pub declared_ids : Option TypeId → List Method → List TypeId
declared_ids None methods = []
declared_ids (Some under) methods = under ∷ methods_ids methods

-- what a term leads to: its parts; of a name of the package what it is declared with
abbrev pub next_ids : List ℕ → Term → Option TypeId → List Method → List TypeId
next_ids path (Basic kind) under methods = []
next_ids path (Defined name) under methods = if bytes_eq name.package path then declared_ids under methods else []
next_ids path (Pointer of) under methods = of ∷ []
next_ids path (Slice of) under methods = of ∷ []
next_ids path (Array size of) under methods = of ∷ []
next_ids path (Map key of) under methods = key ∷ of ∷ []
next_ids path (Chan direction of) under methods = of ∷ []
next_ids path (Func of) under methods = signature_ids of
next_ids path (Struct fields) under methods = fields_ids fields
next_ids path (Interface own) under methods = methods_ids own

-- whether the number is noted
abbrev pub has : {S : Type 0} → HashSet ℕ S → ℕ → Bool
has met n = contains_by (λ key. nat_eq n key) met

-- a type is noted and listed, where it wasn't yet
pub record IsVisited (id : TypeId) (met : ℕ → Bool) (list : List TypeId) (new_met : ℕ → Bool) (new_list : List TypeId) : Type 0 where
  pub met_same : met id.0 ≡ true → (n : ℕ) → new_met n ≡ met n
  pub list_same : met id.0 ≡ true → new_list ≡ list
  pub met_more : met id.0 ≡ false → (n : ℕ) → new_met n ≡ cond (nat_eq id.0 n) true (met n)
  pub list_more : met id.0 ≡ false → new_list ≡ list ++ id ∷ []

-- no type stands in the list twice
abbrev pub Once : List TypeId → Type 0
Once list = (i j : ℕ) (id : TypeId) → slice_get list i ≡ Some id → slice_get list j ≡ Some id → i ≡ j

-- the first so many of these types were visited
pub record AreVisited (ids : List TypeId) (many : ℕ) (met : ℕ → Bool) (list : List TypeId) (new_met : ℕ → Bool) (new_list : List TypeId) : Type 0 where
  pub kept : (n : ℕ) → met n ≡ true → new_met n ≡ true
  pub each : (k : ℕ) (id : TypeId) → k < many → slice_get ids k ≡ Some id → new_met id.0 ≡ true
  pub more : List TypeId
  pub grown : new_list ≡ list ++ more
  pub from : (id : TypeId) → Contains more id → Contains ids id
  pub listed : (n : ℕ) → new_met n ≡ true → (met n ≡ true) ⊎ ((id : TypeId) × Contains more id × (id.0 ≡ n))
  pub fresh : (id : TypeId) → Contains more id → met id.0 ≡ false
  pub noted : (id : TypeId) → Contains more id → new_met id.0 ≡ true
  pub once : Once more

-- what declarations are followed: those of the table, or none
abbrev pub known : Bool → TypeTable → Declarations
known true t = declarations_in t
known false t = nothing_declared

-- what the type leads to is noted
pub record IsFollowed (t : TypeTable) (ds : Declarations) (path : List ℕ) (met : ℕ → Bool) (of : GoType) : Type 0 where
  pub parts : (part : GoType) → Contains (next_types ds path of) part → (id : TypeId) × (met id.0 ≡ true) × (type_at (types_in t) id ≡ part)

-- What is listed is listed once, is of the table and reached from where the search began, which is noted; what is listed before `next` is followed. What
-- is noted is listed.
pub record IsSearch (t : TypeTable) (ds : Declarations) (path : List ℕ) (start : List TypeId) (met : ℕ → Bool) (list : List TypeId) (next : ℕ) : Type 0 where
  pub begun : (id : TypeId) → Contains start id → met id.0 ≡ true
  pub within : (id : TypeId) → Contains list id → id.0 < count t
  pub sound : (id : TypeId) → Contains list id → Reaches ds path (map (λ id. type_at (types_in t) id) start) (type_at (types_in t) id)
  pub listed : (n : ℕ) → met n ≡ true → (id : TypeId) × Contains list id × (id.0 ≡ n)
  pub noted : (id : TypeId) → Contains list id → met id.0 ≡ true
  pub once : Once list
  pub followed : (k : ℕ) (id : TypeId) → k < next → slice_get list k ≡ Some id → IsFollowed t ds path met (type_at (types_in t) id)

-- the list has exactly the types that are reached, each once
pub record AreReached (t : TypeTable) (ds : Declarations) (path : List ℕ) (start : List TypeId) (list : List TypeId) : Type 0 where
  pub within : (id : TypeId) → Contains list id → id.0 < count t
  pub sound : (id : TypeId) → Contains list id → Reaches ds path (map (λ id. type_at (types_in t) id) start) (type_at (types_in t) id)
  pub all : (of : GoType) → Reaches ds path (map (λ id. type_at (types_in t) id) start) of → (id : TypeId) × Contains list id × (type_at (types_in t) id ≡ of)
  pub once : Once list
