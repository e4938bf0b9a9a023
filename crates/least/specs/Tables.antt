-- Members as they are handed in: for each package of the environment its path and the entries of its fact text.
use Rattle.std.specs.Prelude.{◌≡◌, ◌↔◌, ℕ, Bool, true, List}
use Rattle.std.specs.List.{Contains}

-- What may be a member: the path of a package, the name of a function or of a method (`Type.Method`) of it, and a kind.
-- Sets of functions alone have the kind 0.
pub record Member : Type 0 where
  pub path : List ℕ
  pub name : List ℕ
  pub kind : ℕ

abbrev pub member : List ℕ → List ℕ → ℕ → Member
member path name kind = record { path = path; name = name; kind = kind }

-- the package of a member
abbrev pub home : Member → List ℕ
home m = m.path

-- a name and a kind
pub record Entry : Type 0 where
  pub name : List ℕ
  pub kind : ℕ

-- a package's path, and the entries that its fact text spells
pub record Table : Type 0 where
  pub path : List ℕ
  pub entries : List Entry

abbrev pub member_of : Table → Entry → Member
member_of t e = member t.path e.name e.kind

-- the tables have the member
pub record Tells (tables : List Table) (m : Member) : Type 0 where
  pub table : Table
  pub entry : Entry
  pub here : Contains tables table
  pub listed : Contains table.entries entry
  pub is : member_of table entry ≡ m

-- the set that tables hand in
abbrev pub IsTold : List Table → (Member → Bool) → Type 0
IsTold tables given = (m : Member) → (given m ≡ true) ↔ Tells tables m

-- Of each package of the environment of p, and of no other, its members.
pub record AreTablesOf (env : List ℕ → List ℕ → Type 0) (p : List ℕ) (found : List ℕ → Member → Bool) (tables : List Table) : Type 0 where
  pub below : (t : Table) → Contains tables t → env p t.path
  pub right : (t : Table) (e : Entry) → Contains tables t → Contains t.entries e ↔ (found t.path (member_of t e) ≡ true)
  pub every : (q : List ℕ) → env p q → (t : Table) × Contains tables t × (t.path ≡ q)

-- Of each package its least set was found over the tables of its environment.
pub record AreFoundByTables (env : List ℕ → List ℕ → Type 0) (found_in : List ℕ → (Member → Bool) → (Member → Bool) → Type 0) (tables : List ℕ → List Table) (given found : List ℕ → Member → Bool) : Type 0 where
  pub told : (p : List ℕ) → IsTold (tables p) (given p)
  pub of : (p : List ℕ) → AreTablesOf env p found (tables p)
  pub each : (p : List ℕ) → found_in p (given p) (found p)
