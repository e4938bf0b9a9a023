-- What is kept of a package that was checked.
use Rattle.std.specs.Prelude.{◌≡◌, ℕ, List, length, map}
use Rattle.std.specs.Global.{Vec}
use Rattle.go_tree.specs.declared.tree.FileTree.{FileTree}
use Rattle.mark_walk.specs.Asks.{filled}
use Rattle.package_faces.specs.Faces.{Face}
use Rattle.type_model.specs.declared.term.TypeName.{TypeName}
use Rattle.type_model.specs.Tables.{declarations_in}
use Rattle.type_questions.specs.Over.{declared}
use Rattle.typed_tree.specs.Basics.{HasBasics}
use Rattle.typed_marks.specs.declared.item.Item.{Item}
use Rattle.typed_marks.specs.Meanings.{Meaning, Quiet}
use Rattle.typed_marks.specs.States.{so_far, IsState}
use Rattle.unit_read.specs.declared.subject.Subject.{Subject}
use Rattle.unit_read.specs.Imports.{bare}
use Rattle.unit_read.specs.Passages.{passages}
use Rattle.unit_read.specs.Subjects.{cell, flag}
use Rattle.unit_read.specs.Units.{Unit, base_of}
use Rattle.unit_rows.specs.Drafts.{package_unit}
use Rattle.rule_words.specs.Asking.{Rule, type_item, declaration_told}
use Rattle.check_pkg.specs.Refusals.{IsOneAnnotation}
use Rattle.check_pkg.specs.declared.typing.Flags.{Flags}
use Rattle.check_pkg.specs.declared.typing.Typed.{Typed}

abbrev pub items_of : {X : Type 0} → Vec X → List X
items_of row = row.items

-- the rows of both are the same
pub record AreSameFlags (old new : Flags) : Type 0 where
  pub redeclared : map items_of new.redeclared.items ≡ map items_of old.redeclared.items
  pub cyclic : map items_of new.cyclic.items ≡ map items_of old.cyclic.items
  pub circular : map items_of new.circular.items ≡ map items_of old.circular.items
  pub owners : map items_of new.owners.items ≡ map items_of old.owners.items

-- they are those of a package that has been read
pub record AreFlagsOf (s : Subject) (flags : Flags) : Type 0 where
  pub redeclared : flags.redeclared ≡ s.redeclared
  pub cyclic : flags.cyclic ≡ s.cyclic
  pub circular : flags.circular ≡ s.circular
  pub owners : flags.owners ≡ s.owners

-- the package of this path, these texts, trees and interfaces, with what is kept of it
abbrev pub unit_by : List ℕ → List (List ℕ) → List FileTree → List Face → Typed → Unit
unit_by path texts trees env t = package_unit path texts trees t.uses env t.flags.redeclared.items t.flags.cyclic.items t.flags.circular.items t.flags.owners.items

-- what the marks that are kept say; nothing where there is none
abbrev pub marks_of : Typed → Item → Meaning
marks_of t = filled Quiet (so_far t.state)

-- It is kept of this unit: its uses and its flags; its one annotation by these rules, with a block for each of its passages, and over the table of that, what
-- is declared.
pub record IsTyped (rule : Unit → Item → Rule) (u : Unit) (t : Typed) : Type 0 where
  pub uses : t.uses ≡ u.uses
  pub redeclared : flag t.flags.redeclared.items ≡ u.redeclared
  pub cyclic : flag t.flags.cyclic.items ≡ u.cyclic
  pub circular : flag t.flags.circular.items ≡ u.circular
  pub owner : cell t.flags.owners.items ≡ u.owner
  pub state : IsState t.state
  pub blocks : length t.state.blocks.items ≡ length (passages u.trees)
  pub basics : HasBasics t.state.table
  pub step : (name : TypeName) → declarations_in t.state.table name ≡ declared (base_of u) (type_item (bare u)) declaration_told (so_far t.state) name
  pub annotated : IsOneAnnotation rule u (marks_of t)
