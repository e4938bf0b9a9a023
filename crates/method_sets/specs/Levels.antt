-- How much is declared before a selection is told. A level is judged whole: what is selected at a depth is told once all types up to
-- that depth are declared; deeper ones don't matter.
use Rattle.std.specs.Prelude.{◌≡◌, ℕ, ◌<◌, ◌≤◌, ◌⊎◌, ◌↔◌, List, length, None}
use Rattle.std.specs.List.{Contains}
use Rattle.type_model.specs.declared.term.TypeId.{TypeId}
use Rattle.type_model.specs.declared.term.TypeName.{TypeName}
use Rattle.type_model.specs.declared.table.TypeTable.{TypeTable}
use Rattle.type_model.specs.GoTypes.{GoType, DefinedType, type_at, signature_of}
use Rattle.type_model.specs.Parts.{GoMethod}
use Rattle.type_model.specs.Declarations.{Declarations}
use Rattle.type_model.specs.Identity.{AreSorted}
use Rattle.type_model.specs.Tables.{types_in}
use Rattle.method_sets.specs.declared.selection.Selected.{Selected}
use Rattle.method_sets.specs.declared.selection.Selected.TheVariants as selected
use Rattle.method_sets.specs.declared.selection.Selection.{Selection}
use Rattle.method_sets.specs.declared.selection.Selection.TheVariants as selection
use Rattle.method_sets.specs.Members.{Name, selector, Part, AField, AMethod, Member}
use Rattle.method_sets.specs.Paths.{base, Leads, IsPath, Selects, IsAmbiguous, NoPath, IsDefinedPointer, Begins}
use Rattle.method_sets.specs.Selections.{IsGiven, IsInSet, IsSelection}
use Rattle.type_growth.specs.Growth.{IsKnown, IsMissing}

-- all types to which so many embedded fields or fewer lead are known
abbrev pub IsKnownTo : Declarations → GoType → ℕ → Type 0
IsKnownTo ds a depth = (way : List ℕ) (b : GoType) → length way ≤ depth → Leads ds a way b → IsKnown ds b

-- all types to which embedded fields lead are known
abbrev pub IsKnownWhole : Declarations → GoType → Type 0
IsKnownWhole ds a = (way : List ℕ) (b : GoType) → Leads ds a way b → IsKnown ds b

-- all are, or a path has a length up to which all are
abbrev pub EnoughFrom : Declarations → Name → GoType → Type 0
EnoughFrom ds name a = IsKnownWhole ds a ⊎ ((path : List ℕ) × IsPath ds name a path × IsKnownTo ds a (length path))

-- embedded fields lead to the name's type, which isn't declared; all less deep types are, and lead nowhere
pub record NeedsFrom (ds : Declarations) (name : Name) (a : GoType) (o : TypeName) : Type 0 where
  pub way : List ℕ
  pub leads : Leads ds a way (DefinedType o)
  pub none : ds o ≡ None
  pub known : (other : List ℕ) (b : GoType) → length other < length way → Leads ds a other b → IsKnown ds b
  pub lacks : (other : List ℕ) → IsPath ds name a other → length way ≤ length other

-- where paths would begin: at what the type points to, a defined pointer type's underlying type points to, or at the type
abbrev pub IsStart : Declarations → GoType → GoType → Type 0
IsStart ds of a = (((p : GoType) → ¬ IsDefinedPointer ds of p) × (base of ≡ a)) ⊎ ((p : GoType) × IsDefinedPointer ds of p × (base p ≡ a))

-- what a name selects from a type
pub record ToSelect : Type 0 where
  pub of : GoType
  pub name : Name

abbrev pub EnoughToSelect : Declarations → ToSelect → Type 0
EnoughToSelect ds q = IsKnown ds q.of × ((a : GoType) × IsStart ds q.of a × EnoughFrom ds q.name a)

abbrev pub NeedsToSelect : Declarations → ToSelect → TypeName → Type 0
NeedsToSelect ds q o = IsMissing ds q.of o ⊎ (IsKnown ds q.of × ((a : GoType) × IsStart ds q.of a × NeedsFrom ds q.name a o))

-- the only path of least length and what it leads to, a depth of two or more, or nothing
pub data Chosen : Type 0 where
  One : List ℕ → Part → Chosen
  Several : ℕ → Chosen
  Nothing : Chosen

-- the definition of `IsSelection`, of types alone
abbrev pub SaysSelected : Declarations → ToSelect → Chosen → Type 0
SaysSelected ds q (One path part) = (a : GoType) × (m : Member) × Begins ds q.of a × Selects ds q.name a path m × (part ≡ m.is) × IsGiven ds q.of part
SaysSelected ds q (Several depth) = (a : GoType) × Begins ds q.of a × IsAmbiguous ds q.name a depth
SaysSelected ds q Nothing = (a : GoType) → Begins ds q.of a
    → NoPath ds q.name a ⊎ ((path : List ℕ) × (m : Member) × Selects ds q.name a path m × ¬ IsGiven ds q.of m.is)

-- what a selection over a table stands for
abbrev pub part_in : TypeTable → Selected → Part
part_in t (selected.Field id) = AField (type_at (types_in t) id)
part_in t (selected.Method of pointer) = AMethod (signature_of (types_in t) of) pointer

abbrev pub chosen_in : TypeTable → Selection → Chosen
chosen_in t (selection.Found path kind) = One path (part_in t kind)
chosen_in t (selection.Ambiguous depth) = Several depth
chosen_in t selection.Absent = Nothing

-- what the call replies with, as `select` answers it
abbrev pub IsSelectionIn : TypeTable → Declarations → ToSelect → Selection → Type 0
IsSelectionIn t ds q sel = IsSelection t q.of q.name sel

-- the question that a call puts
abbrev pub select_of : TypeTable → TypeId → List ℕ → List ℕ → ToSelect
select_of t of name from = record { of = type_at (types_in t) of; name = selector name from }

-- the methods of a set: all types to which embedded fields lead have to be known; a defined pointer type has none
abbrev pub EnoughToList : Declarations → GoType → Type 0
EnoughToList ds of = IsKnown ds of × (((p : GoType) × IsDefinedPointer ds of p) ⊎ ((a : GoType) × IsStart ds of a × IsKnownWhole ds a))

abbrev pub NeedsToList : Declarations → GoType → TypeName → Type 0
NeedsToList ds of o = IsMissing ds of o
    ⊎ (IsKnown ds of × ((p : GoType) → ¬ IsDefinedPointer ds of p) × ((a : GoType) × (way : List ℕ) × IsStart ds of a × Leads ds a way (DefinedType o) × (ds o ≡ None)))

abbrev pub SaysMethods : Declarations → GoType → List GoMethod → Type 0
SaysMethods ds of methods = AreSorted methods × ((m : GoMethod) → Contains methods m ↔ IsInSet ds of m)
