-- Nodes of a block that declare no type, seen of all of them together.
use Rattle.std.specs.Prelude.{◌≡◌, ℕ, Bool, true, false, List, get_or}
use Rattle.mark_walk.specs.Asks.{done}
use Rattle.typed_marks.specs.declared.item.Stage.TheVariants as s
use Rattle.typed_marks.specs.Meanings.{Quiet}
use Rattle.unit_read.specs.Units.{Unit}
use Rattle.rule_words.specs.Asking.{Rule, item}
use Rattle.typed_marks.specs.declared.item.Item.{Item}

-- of a node whose flag is set nothing is said of what it declares as a type
abbrev pub AreQuietTypes : (Unit → Item → Rule) → Unit → ℕ → List Bool → Type 0
AreQuietTypes rule u block flags = (n : ℕ) → get_or flags n false ≡ true → rule u (item s.Under block n) ≡ done Quiet
