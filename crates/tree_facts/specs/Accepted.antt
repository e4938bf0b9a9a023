-- The accepted packages of a tree, and facts of all of them.
use Rattle.std.specs.Prelude.{◌≡◌, ℕ, Some, List, slice_get}
use Rattle.handed_facts.specs.Handed.{Named}
use Rattle.mark_walk.specs.Asks.{IsTheAnnotation}
use Rattle.typed_marks.specs.declared.item.Item.{Item}
use Rattle.typed_marks.specs.Meanings.{Meaning}
use Rattle.type_answers.specs.Answering.{says_of}
use Rattle.elaborate.specs.Walks.{item_rule}
use Rattle.gv_driver.specs.Stages.{rule}
use Rattle.unit_read.specs.Units.{Unit}
use Rattle.package_faces.specs.Faces.{Face}
use Rattle.gv_driver.specs.Packages.{Package, IsUnit}
use Rattle.gv_driver.specs.Judging.{Env, IsPackageOf}
use Rattle.gv_driver.specs.Judging.Judged.{Accepts}
use Rattle.gv_driver.specs.declared.tree.PackageTexts.{PackageTexts}
use Rattle.gv_driver.specs.Facts.{HasFacts}
use Rattle.gv_driver.specs.Whole.{Checked, HasEnv}

-- An accepted package of the tree, as it is typed: over what is seen of its environment, with its one annotation.
pub record IsAccepted (tree : List PackageTexts) (p : ℕ) (u : Unit) (marks : Item → Meaning) : Type 0 where
  pub pack : PackageTexts
  pub at : slice_get tree p ≡ Some pack
  pub face : Face
  pub accepted : Checked tree p (Accepts face)
  pub env : Env
  pub faces : HasEnv tree p env
  pub of : Package
  pub is_of : IsPackageOf pack.path pack.files of
  pub is_unit : IsUnit of env u
  pub annotated : IsTheAnnotation (says_of u) (item_rule rule u) marks

-- ---- facts of all packages

-- the text is that of the facts of an accepted package, beside its path
pub record IsFactText (analyzer : ℕ) (tree : List PackageTexts) (x : Named) : Type 0 where
  pub p : ℕ
  pub pack : PackageTexts
  pub face : Face
  pub at : slice_get tree p ≡ Some pack
  pub accepted : Checked tree p (Accepts face)
  pub path : x.0 ≡ pack.path
  pub has : HasFacts tree analyzer p x.1

-- Of each accepted package of the tree, and of no other, the facts of the analyzer of a number.
pub record AreFactTextsBy (analyzer : ℕ) (tree : List PackageTexts) (all : List Named) : Type 0 where
  pub each : (k : ℕ) (x : Named) → slice_get all k ≡ Some x → IsFactText analyzer tree x
  pub every : (p : ℕ) (pack : PackageTexts) (face : Face) → slice_get tree p ≡ Some pack → Checked tree p (Accepts face) → (k : ℕ) × (x : Named) × (slice_get all k ≡ Some x) × (x.0 ≡ pack.path)
