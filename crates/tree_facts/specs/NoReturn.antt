-- The functions of a whole tree that never return. This knows neither facts nor caches: no package is told of another.
use Rattle.std.specs.Prelude.{◌≡◌, ◌↔◌, ℕ, Bool, true, List, map}
use Rattle.std.specs.List.{Contains}
use Rattle.fact_codec.specs.declared.units.Never.{Never}
use Rattle.fact_codec.specs.Texts.{AreFacts}
use Rattle.handed_facts.specs.Handed.{Named, Facts}
use Rattle.least.specs.Least.{IsClosed, IsLeast}
use Rattle.least.specs.Tables.{Member, member}
use Rattle.never_returns.specs.Admits.{Admits}
use Rattle.known_callees.specs.Listed.{listed_in}
use Rattle.known_callees.specs.Never.{Around, bodies_in, IsAround, spelling, fact_name}
use Rattle.typed_marks.specs.declared.item.Item.{Item}
use Rattle.typed_marks.specs.Meanings.{Meaning}
use Rattle.unit_read.specs.Units.{Unit}
use Rattle.gv_driver.specs.declared.tree.PackageTexts.{PackageTexts}
use Rattle.tree_facts.specs.Accepted.{IsAccepted, AreFactTextsBy}

-- Where these functions never return, this one doesn't either: an accepted package of the tree declares it, and it is listed, or has a body of which
-- neither a `return` nor the end is reached, where calls of `panic` and of these functions stop control.
pub record IsAdmitted (tree : List PackageTexts) (N : Member → Bool) (m : Member) : Type 0 where
  pub p : ℕ
  pub unit : Unit
  pub marks : Item → Meaning
  pub accepted : IsAccepted tree p unit marks
  pub own : m.path ≡ unit.path
  pub around : Around
  pub is_around : IsAround unit marks around
  pub admits : Admits (listed_in unit) (bodies_in unit around) N m

-- The functions of the tree that never return: the least set that has each function which it admits.
abbrev pub AreNoReturn : List PackageTexts → (Member → Bool) → Type 0
AreNoReturn tree N = IsLeast (IsAdmitted tree) N

-- the function is in each set that has what it admits, so in the least
abbrev pub NoReturn : List PackageTexts → Member → Type 0
NoReturn tree m = (N : Member → Bool) → IsClosed (IsAdmitted tree) N → N m ≡ true

-- the text names exactly the functions of the path of which this holds
pub record Names (P : Member → Type 0) (path text : List ℕ) : Type 0 where
  pub table : Facts Never
  pub spelled : AreFacts spelling table text
  pub each : (name : List ℕ) → Contains (map fact_name table) name ↔ P (member path name 0)

-- Of each accepted package of the tree, and of no other, the facts of `ctrlflow`.
abbrev pub AreFactTexts : List PackageTexts → List Named → Type 0
AreFactTexts tree all = AreFactTextsBy 4 tree all
