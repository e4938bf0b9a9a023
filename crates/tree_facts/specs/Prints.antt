-- The functions of a whole tree that print what they are handed, in each way. This knows neither facts nor caches: no package is told of another.
use Rattle.std.specs.Prelude.{◌≡◌, ◌↔◌, ℕ, Bool, true, List}
use Rattle.fact_codec.specs.declared.wraps.WrapKind.{WrapKind}
use Rattle.fact_codec.specs.declared.wraps.Wraps.{Wraps}
use Rattle.fact_codec.specs.Kinds.{wraps_spelling}
use Rattle.fact_codec.specs.Texts.{AreFacts}
use Rattle.handed_facts.specs.Handed.{Named, Facts}
use Rattle.least.specs.Least.{IsClosed, IsLeast}
use Rattle.least.specs.Tables.{Member, member}
use Rattle.known_callees.specs.Functions.{declared_at}
use Rattle.known_callees.specs.Forwards.{Forwards, listed_in}
use Rattle.known_callees.specs.Wrappers.{Admits}
use Rattle.known_callees.specs.Wraps.{number_of, HasFact}
use Rattle.typed_marks.specs.declared.item.Item.{Item}
use Rattle.typed_marks.specs.Meanings.{Meaning}
use Rattle.unit_read.specs.Units.{Unit}
use Rattle.gv_driver.specs.declared.tree.PackageTexts.{PackageTexts}
use Rattle.tree_facts.specs.Accepted.{IsAccepted, AreFactTextsBy}

-- Where these functions print in a way, this one does too: an accepted package of the tree declares it, and it is listed there, or hands its arguments on
-- to one of these, as that way asks for it: `a...`, and for a format `f, a...`.
pub record IsPrinting (tree : List PackageTexts) (kind : WrapKind) (N : Member → Bool) (m : Member) : Type 0 where
  pub p : ℕ
  pub unit : Unit
  pub marks : Item → Meaning
  pub accepted : IsAccepted tree p unit marks
  pub own : m.path ≡ unit.path
  pub way : m.kind ≡ number_of kind
  pub admits : Admits (listed_in (declared_at unit) unit marks) (Forwards (declared_at unit) unit marks) N m

-- The functions of the tree that print, in each way: the least set that has each function which it admits.
abbrev pub ArePrinting : List PackageTexts → (WrapKind → Member → Bool) → Type 0
ArePrinting tree sets = (kind : WrapKind) → IsLeast (IsPrinting tree kind) (sets kind)

-- the function is in each set that has what it admits, so in the least
abbrev pub Prints : List PackageTexts → WrapKind → Member → Type 0
Prints tree kind m = (N : Member → Bool) → IsClosed (IsPrinting tree kind) N → N m ≡ true

-- the text names exactly the functions of the path of which this holds, each with its ways
pub record NamesKinds (P : WrapKind → Member → Type 0) (path text : List ℕ) : Type 0 where
  pub table : Facts Wraps
  pub spelled : AreFacts wraps_spelling table text
  pub each : (name : List ℕ) (kind : WrapKind) → HasFact table name kind ↔ P kind (member path name (number_of kind))

-- Of each accepted package of the tree, and of no other, the facts of `printf`.
abbrev pub AreWrapTexts : List PackageTexts → List Named → Type 0
AreWrapTexts tree all = AreFactTextsBy 6 tree all
