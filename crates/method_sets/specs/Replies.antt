-- What a search over a table replies while names may be undeclared.
use Rattle.std.specs.Prelude.{◌≡◌, ℕ, ◌<◌, List, Some, map, slice_get}
use Rattle.std.specs.Global.{Vec}
use Rattle.type_model.specs.declared.term.TypeName.{TypeName}
use Rattle.type_model.specs.declared.term.TypeId.{TypeId}
use Rattle.type_model.specs.declared.term.Method.{Method}
use Rattle.type_model.specs.Parts.{GoMethod, method_of}
use Rattle.type_model.specs.Declarations.{Declarations}
use Rattle.type_model.specs.declared.table.TypeTable.{TypeTable}
use Rattle.type_model.specs.GoTypes.{GoType, DefinedType, type_at, type_number}
use Rattle.type_model.specs.Tables.{types_in, count, declarations_in}
use Rattle.type_growth.specs.declared.reply.Reply.{Reply}
use Rattle.type_growth.specs.declared.reply.Reply.TheVariants as reply
use Rattle.type_growth.specs.Growth.{IsKnown, IsMissing}
use Rattle.method_sets.specs.declared.search.Entry.{Entry}
use Rattle.method_sets.specs.declared.selection.Selection.{Selection}
use Rattle.method_sets.specs.Members.{Name}
use Rattle.method_sets.specs.Paths.{base}
use Rattle.method_sets.specs.Selections.{IsAnswer, IsOpened, IsMethodSet, fields_only}
use Rattle.method_sets.specs.Shown.{depth_of}
use Rattle.method_sets.specs.Levels.{EnoughFrom, NeedsFrom, NeedsToList}

-- the types of the entries before this one are known
abbrev pub AreKnownBefore : TypeTable → List Entry → ℕ → Type 0
AreKnownBefore t es i = (j : ℕ) (e : Entry) → j < i → slice_get es j ≡ Some e → IsKnown (declarations_in t) (type_number (types_in t) e.at)

-- so are those of later ones of its depth, before `end`
abbrev pub AreKnownBeside : TypeTable → List Entry → ℕ → ℕ → Type 0
AreKnownBeside t es i end = (j : ℕ) (g : Entry) → i < j → j < end → slice_get es j ≡ Some g → g.depth ≡ depth_of es i → IsKnown (declarations_in t) (type_number (types_in t) g.at)

-- a later entry of its depth has a type that isn't declared
abbrev pub IsMissingBeside : TypeTable → List Entry → ℕ → ℕ → Type 0
IsMissingBeside t es i j = (g : Entry) × (o : TypeName) × (i < j) × (slice_get es j ≡ Some g) × (g.depth ≡ depth_of es i) × IsMissing (declarations_in t) (type_number (types_in t) g.at) o

-- a type whose declaration is needed
abbrev pub IsAwaited : TypeTable → GoType → Name → ℕ → Type 0
IsAwaited t a name id = (o : TypeName) × (id < count t) × (type_number (types_in t) id ≡ DefinedType o) × NeedsFrom (declarations_in t) name a o

-- from where paths begin
abbrev pub IsReplyFrom : TypeTable → GoType → Name → Reply Selection → Type 0
IsReplyFrom t a name (reply.Is sel) = EnoughFrom (declarations_in t) name a × IsAnswer t a name sel
IsReplyFrom t a name (reply.Waits id) = IsAwaited t a name id.0

-- from a type that opens there, or not
abbrev pub IsOpenedReply : TypeTable → GoType → Name → Reply Selection → Type 0
IsOpenedReply t of name (reply.Is sel) = EnoughFrom (declarations_in t) name (base of) × IsOpened t of name sel
IsOpenedReply t of name (reply.Waits id) = IsAwaited t (base of) name id.0

abbrev pub fields_only_in : Reply Selection → Reply Selection
fields_only_in (reply.Is sel) = reply.Is (fields_only sel)
fields_only_in (reply.Waits id) = reply.Waits id

-- ---- method sets

-- the list is the method set, as `method_set` answers it
abbrev pub IsListIn : TypeTable → Declarations → GoType → Vec Method → Type 0
IsListIn t ds of v = IsMethodSet t of v.items

-- what a list of methods over a table stands for
abbrev pub listed_in : TypeTable → List Method → List GoMethod
listed_in t methods = map (λ m. method_of (types_in t) m) methods

-- a type whose declaration a method set needs
abbrev pub IsListAwaited : TypeTable → GoType → TypeId → Type 0
IsListAwaited t of id = (o : TypeName) × (id.0 < count t) × (type_at (types_in t) id ≡ DefinedType o) × NeedsToList (declarations_in t) of o

-- an entry whose type isn't declared
abbrev pub IsMissingAt : TypeTable → List Entry → ℕ → Type 0
IsMissingAt t es j = (g : Entry) × (o : TypeName) × (slice_get es j ≡ Some g) × IsMissing (declarations_in t) (type_number (types_in t) g.at) o
