-- The parts of a slot, one after the other.
use Rattle.std.specs.Prelude.{ℕ, List, [], ◌∷◌, Option, Some, None, slice_get}
use Rattle.std.specs.Option.{option_map_or}
use Rattle.go_tree.specs.declared.tree.Node.{Node}
use Rattle.package_objects.specs.Declares.{items, part}
use Rattle.rule_words.specs.declared.read.How.{How}
use Rattle.rule_words.specs.declared.read.Read.{Read}
use Rattle.rule_words.specs.Asking.{Asks}
use Rattle.rule_words.specs.Parts.{Part, read_as, slot_reads}
use Rattle.type_answers.specs.Coming.{GivesAt, AwaitsAt}
use Rattle.typed_marks.specs.declared.item.Item.{Item}
use Rattle.typed_marks.specs.declared.state.State.{State}
use Rattle.unit_read.specs.declared.subject.Subject.{Subject}
use Rattle.go_rules.specs.declared.family.Family.{Family}
use Rattle.go_rules.specs.Families.{reads_by}

abbrev pub one_read : How → ℕ → List Read
one_read how n = read_as how n ∷ []

abbrev pub read_item : How → Option ℕ → List Read
read_item how o = option_map_or (one_read how) o []

abbrev pub nth_read : How → List ℕ → ℕ → List Read
nth_read how list i = read_item how (slice_get list i)

-- what is read of a slot
abbrev pub nth_slot : Family → List Node → Node → ℕ → List Read
nth_slot f nodes node slot = slot_reads (reads_by f node.kind slot) (items nodes (part node slot))

-- what comes of asking for parts: these, or an item for which that waits
abbrev pub ComeTo : Subject → State → Asks (List Part) → List Part → Option Item → Type 0
ComeTo u s r parts None = GivesAt u s r parts
ComeTo u s r parts (Some i) = AwaitsAt u s r i
