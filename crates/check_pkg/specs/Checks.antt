-- What comes of a package.
use Rattle.std.specs.Prelude.{◌≡◌, ℕ, List, [], map, Option, Some}
use Rattle.package_faces.specs.Interfaces.{object_in, AreObjectsIn}
use Rattle.type_model.specs.declared.table.TypeTable.{TypeTable}
use Rattle.type_model.specs.declared.term.TypeName.{TypeName}
use Rattle.type_model.specs.declared.term.Term.{Term}
use Rattle.type_model.specs.Tables.{IsTable, Extends, count, terms_in, types_in, declarations_in}
use Rattle.typed_tree.specs.Basics.{HasBasics}
use Rattle.mark_walk.specs.Asks.{Sound, Awaits}
use Rattle.mark_walk.specs.Waiting.{IsCircle}
use Rattle.typed_marks.specs.declared.item.Item.{Item}
use Rattle.typed_marks.specs.Meanings.{Meaning}
use Rattle.unit_read.specs.Units.{Unit}
use Rattle.rule_words.specs.Asking.{Rule}
use Rattle.elaborate.specs.Walks.{IsItemOf, item_rule}
use Rattle.type_answers.specs.Answering.{says_of, pends_of}
use Rattle.check_pkg.specs.declared.judging.Checked.{Checked}
use Rattle.check_pkg.specs.declared.judging.Outcome.{Outcome}
use Rattle.check_pkg.specs.declared.judging.Outcome.TheVariants as o
use Rattle.check_pkg.specs.Faults.{IsOrdered}
use Rattle.check_pkg.specs.Interfaces.{HasObjects, declarations_of}
use Rattle.check_pkg.specs.Packages.{Package, Env, IsUnit}
use Rattle.check_pkg.specs.Readings.{IsUnitOf}
use Rattle.check_pkg.specs.Refusals.{HasMarks, IsAnnotation}
use Rattle.check_pkg.specs.Typings.{IsTyped}
use Rattle.go_tree.specs.declared.bindings.Object.{Object}
use Rattle.go_tree.specs.declared.tree.FileTree.{FileTree}
use Rattle.go_tree.specs.declared.tree.NodeRef.{NodeRef}

-- the table of what is kept
abbrev pub table_of : Checked → TypeTable
table_of c = c.typed.state.table

-- the objects are what the unit exports, over the table, which declares what every annotation does
pub record HasExported (rule : Unit → Item → Rule) (u : Unit) (c : Checked) : Type 0 where
  pub table : IsTable (table_of c)
  pub within : AreObjectsIn u.path (count (table_of c)) (types_in (table_of c)) c.exports.items
  pub objects : HasObjects rule u (map (λ e. object_in (types_in (table_of c)) e) c.exports.items)
  pub declared : (marks : Item → Meaning) → IsAnnotation rule u marks → (name : TypeName) → declarations_in (table_of c) name ≡ declarations_of u marks name

-- The list has all that refuses the unit, in order and each once; where nothing refuses it the exports are what it exports; and what is kept
-- is kept of this unit, with its one annotation.
pub record IsChecked (rule : Unit → Item → Rule) (u : Unit) (c : Checked) : Type 0 where
  pub marks : HasMarks rule u c.refused.items
  pub ordered : IsOrdered c.refused.items
  pub exports : c.refused.items ≡ [] → HasExported rule u c
  pub nothing : ¬ (c.refused.items ≡ []) → c.exports.items ≡ []
  pub typed : IsTyped rule u c.typed

-- Over marks that every annotation has, an item of the package waits for one that waits for itself.
pub record HasCircle (rule : Unit → Item → Rule) (u : Unit) : Type 0 where
  pub so_far : Item → Option Meaning
  pub item : Item
  pub sound : Sound (says_of u) (item_rule rule u) so_far
  pub waits : IsCircle (λ x. Awaits (says_of u) (pends_of u) so_far (item_rule rule u x)) (IsItemOf u) (Some item)

abbrev pub IsOutcome : (Unit → Item → Rule) → Unit → Outcome → Type 0
IsOutcome rule u (o.Checked c) = IsChecked rule u c
IsOutcome rule u o.Circle = HasCircle rule u

-- the table that comes back has the predeclared types, and these under their numbers
abbrev pub HasTypes : List Term → Outcome → Type 0
HasTypes terms (o.Checked c) = HasBasics (table_of c) × Extends terms (terms_in (table_of c))
HasTypes terms o.Circle = Prim.Unit {0}

-- what comes of the package of this path, of these texts, trees, uses and interfaces
pub record IsOutcomeBy (rule : Unit → Item → Rule) (path : List ℕ) (texts : List (List ℕ)) (trees : List FileTree) (uses : List (NodeRef × Object)) (env : Env) (outcome : Outcome) : Type 0 where
  pub unit : Unit
  pub «is» : IsUnitOf path texts trees uses env unit
  pub comes : IsOutcome rule unit outcome

-- what comes of the package over this environment
pub record IsOutcomeOf (rule : Unit → Item → Rule) (p : Package) (env : Env) (outcome : Outcome) : Type 0 where
  pub unit : Unit
  pub «is» : IsUnit p env unit
  pub comes : IsOutcome rule unit outcome
