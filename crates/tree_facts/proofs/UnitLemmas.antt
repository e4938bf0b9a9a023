-- An accepted package is typed in one way.
use Rattle.std.proofs.Common.{◌≡◌, ℕ, List, sym, ◌∙◌, subst}
use Rattle.std.proofs.Math.Path.{fun_ext}
use Rattle.mark_walk.specs.Asks.{IsTheAnnotation}
use Rattle.typed_marks.specs.declared.item.Item.{Item}
use Rattle.typed_marks.specs.Meanings.{Meaning}
use Rattle.unit_read.specs.Units.{Unit}
use Rattle.elaborate.specs.Walks.{item_rule}
use Rattle.type_answers.specs.Answering.{says_of}
use Rattle.gv_driver.specs.Stages.{rule}
use Rattle.gv_driver.specs.Packages.{Package, IsUnit}
use Rattle.gv_driver.proofs.OneUnit.{the_unit}
use Rattle.gv_driver.specs.Judging.{Env, IsPackageOf}
use Rattle.gv_driver.proofs.OneFinding.{one-package, package-spelled}
use Rattle.gv_driver.specs.declared.tree.PackageTexts.{PackageTexts}
use Rattle.gv_driver.specs.Trees.{IsTree}
use Rattle.gv_driver.proofs.WholeLaws.{one-env, same-number, same_pack}
use Rattle.tree_facts.specs.Accepted.{IsAccepted}

module _ (tree : List PackageTexts) (p : ℕ) (u v : Unit) (m n : Item → Meaning) (a : IsAccepted tree p u m) (b : IsAccepted tree p v n) where
  pack_is : a.pack ≡ b.pack
  pack_is = same_pack tree p a.pack b.pack a.at b.at

  of_here : IsPackageOf b.pack.path b.pack.files a.of
  of_here = subst (λ (x : PackageTexts). IsPackageOf x.path x.files a.of) pack_is a.is_of

  of_is : a.of ≡ b.of
  of_is = one-package b.pack.path b.pack.files a.of b.of of_here b.is_of

  env_is : a.env ≡ b.env
  env_is = one-env tree p a.faces.0 b.faces.0 a.env b.env a.faces.1 b.faces.1

  unit_here : IsUnit b.of b.env u
  unit_here = subst (λ (e : Env). IsUnit b.of e u) env_is (subst (λ (x : Package). IsUnit x a.env u) of_is a.is_unit)

  pub unit_is : u ≡ v
  unit_is = the_unit b.of b.env u v unit_here b.is_unit (package-spelled b.pack.path b.pack.files b.of b.is_of)

  annotated_here : IsTheAnnotation (says_of v) (item_rule rule v) m
  annotated_here = subst (λ (x : Unit). IsTheAnnotation (says_of x) (item_rule rule x) m) unit_is a.annotated

  pub marks_are : m ≡ n
  marks_are = fun_ext (b.annotated.alone m annotated_here.is)

pub unit_path : (tree : List PackageTexts) (p : ℕ) (u : Unit) (m : Item → Meaning) (here : IsAccepted tree p u m) → u.path ≡ here.pack.path
unit_path tree p u m here = here.is_unit.path ∙ here.is_of.path_is

-- an accepted package whose typing has the path of this one is this one, typed as this
module _ (tree : List PackageTexts) (formed : IsTree tree) (p q : ℕ) (u v : Unit) (m n : Item → Meaning) (here : IsAccepted tree p u m) (there : IsAccepted tree q v n) (path : v.path ≡ u.path) where
  number_is : q ≡ p
  number_is = same-number tree q p there.pack here.pack formed there.at here.at (sym (unit_path tree q v n there) ∙ (path ∙ unit_path tree p u m here))

  there_at : IsAccepted tree p v n
  there_at = subst (λ (k : ℕ). IsAccepted tree k v n) number_is there

  pub same_unit : v ≡ u
  same_unit = unit_is tree p v u n m there_at here

  pub same_marks : n ≡ m
  same_marks = marks_are tree p v u n m there_at here
