-- All that refuses a package.
use Rattle.std.specs.Prelude.{◌⊎◌, ◌↔◌, List}
use Rattle.std.specs.List.{Contains}
use Rattle.mark_walk.specs.Asks.{Annotates, IsTheAnnotation}
use Rattle.typed_marks.specs.declared.item.Item.{Item}
use Rattle.typed_marks.specs.Meanings.{Meaning}
use Rattle.unit_read.specs.Imports.{bare}
use Rattle.unit_read.specs.Units.{Unit}
use Rattle.rule_words.specs.Asking.{Rule}
use Rattle.elaborate.specs.Walks.{item_rule}
use Rattle.type_answers.specs.Answering.{says_of}
use Rattle.check_pkg.specs.declared.refusal.Refusal.{Refusal}
use Rattle.check_pkg.specs.Imports.{IsRefusedImport}
use Rattle.check_pkg.specs.Items.{IsRefusedItem}
use Rattle.check_pkg.specs.Late.{IsRefusedLate}

-- each item of the package has the mark that its rule gives
abbrev pub IsAnnotation : (Unit → Item → Rule) → Unit → (Item → Meaning) → Type 0
IsAnnotation rule u marks = Annotates (says_of u) (item_rule rule u) marks

-- the marks are the one annotation of the unit by these rules
abbrev pub IsOneAnnotation : (Unit → Item → Rule) → Unit → (Item → Meaning) → Type 0
IsOneAnnotation rule u marks = IsTheAnnotation (says_of u) (item_rule rule u) marks

-- All that refuses a unit: marks of its items, faults of its imports, and faults by late rules. Of the environment only what names imports declare and
-- what selectors select is read.
abbrev pub IsRefused : Unit → (Item → Meaning) → Refusal → Type 0
IsRefused u marks x = IsRefusedItem (bare u) marks x ⊎ (IsRefusedImport u marks x ⊎ IsRefusedLate u marks x)

-- The list is that of all that refuses the unit by these rules, whatever annotation is read; and there is one annotation.
pub record HasMarks (rule : Unit → Item → Rule) (u : Unit) (list : List Refusal) : Type 0 where
  pub marks : Item → Meaning
  pub annotated : IsOneAnnotation rule u marks
  pub each : (other : Item → Meaning) → IsAnnotation rule u other → (x : Refusal) → Contains list x ↔ IsRefused u other x
