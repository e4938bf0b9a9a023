-- From one state of a package that is being marked to another.
use Rattle.std.specs.Prelude.{◌≡◌, ◌<◌, ◌≤◌, ℕ, Option, None}
use Rattle.mark_walk.specs.Asks.{Awaits, IsMarked}
use Rattle.mark_walk.specs.Marking.{Goes}
use Rattle.mark_walk.specs.Waiting.{Rests, IsCircle}
use Rattle.mark_walk.specs.declared.walk.Walk.{Walk}
use Rattle.typed_marks.specs.declared.item.Item.{Item}
use Rattle.typed_marks.specs.declared.item.Stage.{Stage}
use Rattle.typed_marks.specs.declared.item.Block.{Block}
use Rattle.typed_marks.specs.declared.state.State.{State}
use Rattle.typed_marks.specs.Items.{stage_number}
use Rattle.typed_marks.specs.Meanings.{Meaning}
use Rattle.typed_marks.specs.States.{so_far}
use Rattle.unit_read.specs.declared.subject.Subject.{Subject}
use Rattle.unit_read.specs.Units.{Unit}
use Rattle.unit_read.specs.Subjects.{full_of, unit_of}
use Rattle.rule_words.specs.Asking.{Rule, item}
use Rattle.elaborate.specs.Walks.{IsItemOf, IsAwaited, awaited_number, awaited_count, item_rule}
use Rattle.type_answers.specs.Answering.{says_of, pends_of}
use Rattle.rule_words.specs.Scenes.{IsScene}
use Rattle.elaborate.specs.declared.whole.Elaborated.{Elaborated}
use Rattle.elaborate.specs.declared.whole.Elaborated.TheVariants as e
use Rattle.elaborate.specs.Elaborated.{IsAtWork, IsAnnotated, IsInCircle}

-- the same package, of which more is marked, by its rules
pub record Went (rule : Unit → Item → Rule) (u0 u1 : Subject) (s0 s1 : State) : Type 0 where
  pub work : IsAtWork u1 s1
  pub subject : u1 ≡ u0
  pub unit : unit_of u1 ≡ unit_of u0
  pub full : full_of u1 ≡ full_of u0
  pub goes : Goes (says_of (full_of u0)) (item_rule rule (full_of u0)) (so_far s0) (so_far s1)

-- nothing waits
abbrev pub IsAtRest : Unit → State → Walk Item → Type 0
IsAtRest u s walk = Rests (IsAwaited u) (awaited_number u) (awaited_count u) (so_far s) walk

abbrev pub IsCircleAt : (Unit → Item → Rule) → Unit → State → Option Item → Type 0
IsCircleAt rule u s circle = IsCircle (λ x. Awaits (says_of u) (pends_of u) (so_far s) (item_rule rule u x)) (IsItemOf u) circle

-- this is marked, and nothing waits; or an item waits for itself
pub record Ended (rule : Unit → Item → Rule) (u : Unit) (s : State) (walk : Walk Item) (Marked : (Item → Option Meaning) → Type 0) (circle : Option Item) : Type 0 where
  pub rests : circle ≡ None → IsAtRest u s walk
  pub marked : circle ≡ None → Marked (so_far s)
  pub waits : IsCircleAt rule u s circle

-- ---- what is marked

-- the first stages of a node
abbrev pub AreStagesMarked : ℕ → ℕ → ℕ → (Item → Option Meaning) → Type 0
AreStagesMarked block n count so_far = (stage : Stage) → stage_number stage < count → IsMarked so_far (item stage block n)

abbrev pub IsNodeMarked : ℕ → ℕ → (Item → Option Meaning) → Type 0
IsNodeMarked block n so_far = (stage : Stage) → IsMarked so_far (item stage block n)

-- the first stages of the nodes from one on and before another
abbrev pub AreStagesOfNodes : ℕ → ℕ → ℕ → ℕ → (Item → Option Meaning) → Type 0
AreStagesOfNodes block low until count so_far = (n : ℕ) → low ≤ n → n < until → AreStagesMarked block n count so_far

-- the nodes from one on and before another
abbrev pub AreNodesMarked : ℕ → ℕ → ℕ → (Item → Option Meaning) → Type 0
AreNodesMarked block low until so_far = (n : ℕ) → low ≤ n → n < until → IsNodeMarked block n so_far

-- the items of the first blocks
abbrev pub AreBlocksMarked : Unit → ℕ → (Item → Option Meaning) → Type 0
AreBlocksMarked u count so_far = (i : Item) → i.block < count → IsItemOf u i → IsMarked so_far i

-- there is such a node in the block
abbrev pub IsNodeOf : Unit → ℕ → ℕ → Type 0
IsNodeOf u block n = (stage : Stage) → IsItemOf u (item stage block n)

-- there are such nodes, from one on and before another
abbrev pub AreNodesOf : Unit → ℕ → ℕ → ℕ → Type 0
AreNodesOf u block low until = (n : ℕ) → low ≤ n → n < until → IsNodeOf u block n

-- nothing is said of the marks
abbrev pub IsAnything : (Item → Option Meaning) → Type 0
IsAnything so_far = Prim.Unit {0}

-- what comes of a package: its one annotation, or an item that waits for itself
abbrev pub IsElaborated : (Unit → Item → Rule) → Subject → Elaborated → Type 0
IsElaborated rule u (e.Marked s) = IsScene u s × IsAnnotated rule u s
IsElaborated rule u (e.Circle s i) = IsScene u s × IsInCircle rule u s i
