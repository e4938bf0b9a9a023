-- The functions of a package that print, their facts, and what a package's calls are judged by.
use Rattle.std.specs.Prelude.{◌≡◌, ◌⊎◌, ◌↔◌, ℕ, ◌==◌, ◌&&◌, Bool, true, if◌then◌else◌, List, [], ◌∷◌, ◌++◌}
use Rattle.std.specs.List.{Contains}
use Rattle.fact_codec.specs.declared.wraps.WrapKind.{WrapKind}
use Rattle.fact_codec.specs.declared.wraps.WrapKind.TheVariants as wrap
use Rattle.fact_codec.specs.declared.wraps.Wraps.{Wraps}
use Rattle.fact_codec.specs.Kinds.{has_kind, wraps_spelling}
use Rattle.fact_codec.specs.Texts.{AreFacts}
use Rattle.go_tree.specs.declared.tree.NodeRef.{NodeRef}
use Rattle.handed_facts.specs.Handed.{Named, AreHanded}
use Rattle.least.specs.Staged.{IsLeastIn}
use Rattle.least.specs.Tables.{Member, member, home}
use Rattle.own_functions.specs.Functions.{declared_at}
use Rattle.typed_marks.specs.declared.item.Item.{Item}
use Rattle.typed_marks.specs.Meanings.{Meaning}
use Rattle.unit_read.specs.Units.{Unit}
use Rattle.analysis_core.specs.declared.diagnostic.Diagnostic.{Diagnostic}
use Rattle.member_names.specs.Named.{IsNamed}
use Rattle.vet_printf.specs.Verbs.{has_flag}
use Rattle.vet_printf.specs.Calls.{ArePrintFaults}
use Rattle.vet_printf.specs.Forwards.{Forwards, listed_in}
use Rattle.vet_printf.specs.Wrappers.{Admits, HandsTo}

-- ---- kinds

-- a kind as a member has it
abbrev pub number_of : WrapKind → ℕ
number_of wrap.Print = 1
number_of wrap.Printf = 2
number_of wrap.Errorf = 4

abbrev pub kind_if : Wraps → WrapKind → List ℕ
kind_if fact kind = if has_kind fact kind then number_of kind ∷ [] else []

-- the kinds of a fact
abbrev pub kinds_of : Wraps → List ℕ
kinds_of fact = kind_if fact wrap.Print ++ (kind_if fact wrap.Printf ++ kind_if fact wrap.Errorf)

-- ---- the least sets, one for each kind: a function hands on to functions of its own kind alone

-- to whom the functions of the package hand on
pub record AreForwards (u : Unit) (marks : Item → Meaning) (forwards : Member → List Member) : Type 0 where
  pub each : (m g : Member) → Contains (forwards m) g ↔ Forwards (declared_at u) u marks m g

abbrev pub listed_as : WrapKind → (Member → Bool) → Member → Bool
listed_as kind listed m = (m.kind == number_of kind) && listed m

abbrev pub forwards_as : WrapKind → (Member → List Member) → Member → List Member
forwards_as kind forwards m = if m.kind == number_of kind then forwards m else []

-- what is admitted of a kind
abbrev pub AdmitsAs : WrapKind → Unit → (Item → Meaning) → (Member → List Member) → (Member → Bool) → Member → Type 0
AdmitsAs kind u marks forwards N m = Admits (listed_as kind (listed_in (declared_at u) u marks)) (HandsTo (forwards_as kind forwards)) N m

-- The functions of a package that print, over the facts of other packages.
pub record ArePrinting (u : Unit) (marks : Item → Meaning) (given : List Named) (handed : Member → Bool) (sets : WrapKind → Member → Bool) : Type 0 where
  pub forwards : Member → List Member
  pub are_forwards : AreForwards u marks forwards
  pub are_handed : AreHanded wraps_spelling kinds_of given handed
  pub least : (kind : WrapKind) → IsLeastIn home (AdmitsAs kind u marks forwards) u.path handed (sets kind)

-- ---- facts

-- the table has the name, with a fact of this kind
abbrev pub HasFact : List (List ℕ × Wraps) → List ℕ → WrapKind → Type 0
HasFact table name kind = (fact : Wraps) × Contains table (name, fact) × (has_kind fact kind ≡ true)

-- The text of their names, each with its kinds.
pub record IsWrapsText (u : Unit) (marks : Item → Meaning) (given : List Named) (text : List ℕ) : Type 0 where
  pub handed : Member → Bool
  pub sets : WrapKind → Member → Bool
  pub are : ArePrinting u marks given handed sets
  pub table : List (List ℕ × Wraps)
  pub spelled : AreFacts wraps_spelling table text
  pub each : (name : List ℕ) (kind : WrapKind) → HasFact table name kind ↔ (sets kind (member u.path name (number_of kind)) ≡ true)

-- ---- calls

-- the node names a function or method that prints in this way, of the package or of another
abbrev pub NamesPrinting : Unit → (Item → Meaning) → (Member → Bool) → (WrapKind → Member → Bool) → NodeRef → WrapKind → Type 0
NamesPrinting u marks handed sets at kind = (m : List ℕ × List ℕ) × IsNamed u marks at.file at.node m
    × ((handed (member m.0 m.1 (number_of kind)) ≡ true) ⊎ (sets kind (member m.0 m.1 (number_of kind)) ≡ true))

-- the kinds of what each node names
pub record AreKinds (u : Unit) (marks : Item → Meaning) (given : List Named) (kinds : NodeRef → ℕ) : Type 0 where
  pub handed : Member → Bool
  pub sets : WrapKind → Member → Bool
  pub are : ArePrinting u marks given handed sets
  pub each : (at : NodeRef) (kind : WrapKind) → (has_flag (kinds at) (number_of kind) ≡ true) ↔ NamesPrinting u marks handed sets at kind

-- All that printf reports of a package, over the facts of other packages.
pub record ArePrintfFindings (u : Unit) (marks : Item → Meaning) (given : List Named) (found : List Diagnostic) : Type 0 where
  pub kinds : NodeRef → ℕ
  pub are_kinds : AreKinds u marks given kinds
  pub are : ArePrintFaults kinds u marks found
