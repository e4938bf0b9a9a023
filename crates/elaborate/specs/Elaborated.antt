-- What is said of a package whose items have been marked.
use Rattle.std.specs.Prelude.{◌≡◌, ◌+◌, ◌<◌, ◌^◌, ℕ, length, Option, Some}
use Rattle.mark_walk.specs.Asks.{Sound, Awaits, IsTheAnnotation, filled}
use Rattle.mark_walk.specs.Waiting.{IsCircle}
use Rattle.typed_marks.specs.declared.item.Item.{Item}
use Rattle.typed_marks.specs.declared.state.State.{State}
use Rattle.typed_marks.specs.Meanings.{Meaning, Quiet}
use Rattle.typed_marks.specs.States.{so_far}
use Rattle.unit_read.specs.declared.subject.Subject.{Subject}
use Rattle.unit_read.specs.Units.{Unit}
use Rattle.unit_read.specs.Subjects.{full_of, unit_of}
use Rattle.rule_words.specs.Asking.{Rule}
use Rattle.rule_words.specs.Scenes.{IsScene}
use Rattle.elaborate.specs.Walks.{IsItemOf, blocks_of, count_of, item_rule}
use Rattle.type_answers.specs.Answering.{says_of, pends_of}

-- The package is read, and the state has cells for its items; these and one more can be counted.
pub record IsAtWork (u : Subject) (s : State) : Type 0 where
  pub scene : IsScene u s
  pub blocks : s.blocks.items ≡ blocks_of (unit_of u)
  pub cells : length s.cells.items ≡ count_of (unit_of u)
  pub fits : count_of (unit_of u) + 1 < 2 ^ 64

-- the marks are the one annotation of the package by these rules
abbrev pub IsAnnotated : (Unit → Item → Rule) → Subject → State → Type 0
IsAnnotated rule u s = IsTheAnnotation (says_of (full_of u)) (item_rule rule (full_of u)) (filled Quiet (so_far s))

-- Over these marks, which every annotation has, the item waits for itself, and an item of the package waits for it. Of what is nowhere the first is always so.
pub record IsInCircle (rule : Unit → Item → Rule) (u : Subject) (s : State) (i : Item) : Type 0 where
  pub sound : Sound (says_of (full_of u)) (item_rule rule (full_of u)) (so_far s)
  pub waits : IsCircle (λ x. Awaits (says_of (full_of u)) (pends_of (full_of u)) (so_far s) (item_rule rule (full_of u) x)) (IsItemOf (full_of u)) (Some i)
