use Rattle.std.specs.Prelude.{ℕ, ◌≡◌, ◌≤◌, Bool, true, false, Option, Some, None, List, [], ◌∷◌, reverse}
use Rattle.go_parse.specs.declared.parser.Parser.{Parser}
use Rattle.go_parse.specs.declared.parser.Turn.{Turn}
use Rattle.go_parse.specs.declared.parser.Turn.TheVariants as turns
use Rattle.go_parse.specs.declared.parser.Task.{Task}
use Rattle.go_parse.specs.declared.parser.Task.TheVariants.{Want, Close, After}
use Rattle.go_parse.specs.declared.parser.Step.{Step}
use Rattle.go_parse.specs.declared.parser.Step.TheVariants as steps
use Rattle.go_parse.specs.State.{State, Outcome, Goes, Takes, Refuses, pushed, Passes, Fails, Stops}
use Rattle.go_tree.specs.declared.grammar.Category.{Category}
use Rattle.go_tree.specs.Arena.{flat, roots, heights, kinds}
use Rattle.go_tree.specs.Forest.{Forest, ◌⊕◌}
use Rattle.go_tree.specs.Spells.{Spells}
use Rattle.go_tree.specs.declared.grammar.Symbol.TheVariants.{Inline}

abbrev pub state_of : Parser → State
state_of p = record { stack = reverse p.stack.items; nodes = p.nodes.items; pending = p.pending.items; heights = p.heights.items; kinds = p.kinds.items }

-- the state with an item on its stack, if there is one
abbrev pub topped : Option Task → State → State
topped None s = s
topped (Some i) s = pushed (i ∷ []) s

abbrev pub outcome : Turn → State → Outcome
outcome (turns.Goes above) s = Goes (topped above s)
outcome turns.Takes s = Takes s
outcome turns.Refuses s = Refuses

abbrev pub FitsItem : Task → ℕ → Type 0
FitsItem (Want s) m = Unit {0}
FitsItem (Close kind a base) m = base ≤ m
FitsItem (After p q l a base) m = Unit {0}

-- nothing is wanted any more
abbrev pub is_over : Step → Bool
is_over steps.Over = true
is_over steps.Taken = false
is_over steps.Refused = false

-- no token was taken
abbrev pub stops : Step → Bool
stops steps.Taken = false
stops steps.Over = true
stops steps.Refused = true

abbrev pub Stepped : Step → ℕ → List ℕ → State → State → Type 0
Stepped steps.Taken n xs s s' = Passes n xs s s'
Stepped steps.Refused n xs s s' = Fails n xs s
Stepped steps.Over n xs s s' = Stops n xs s s'

-- The nodes of a state are those of the trees.
pub record Built (s : State) (g : Forest) : Type 0 where
  pub nodes : s.nodes ≡ flat 0 g
  pub pending : s.pending ≡ roots 0 g
  pub heights : s.heights ≡ heights g
  pub kinds : s.kinds ≡ kinds g

-- A category is wanted over what was built.
abbrev pub wanting : Category → State → State
wanting x s = record { stack = Want (Inline x) ∷ []; nodes = s.nodes; pending = s.pending; heights = s.heights; kinds = s.kinds }

-- The tokens of the classes cs, which end at n, are what the category spells with these trees.
abbrev pub SpellsTo : ℕ → Category → List ℕ → Forest → Type 0
SpellsTo n x cs f = Spells n (Inline x ∷ []) f cs []

-- A state at the end of the classes: over the trees before, those that spell them all, which are the only ones.
pub record Ended (n : ℕ) (x : Category) (cs : List ℕ) (before : Forest) (s : State) : Type 0 where
  pub f : Forest
  pub spelled : SpellsTo n x cs f
  pub built : Built s (before ⊕ f)
  pub only : (other : Forest) → SpellsTo n x cs other → f ≡ other

abbrev pub Unspelled : ℕ → Category → List ℕ → Type 0
Unspelled n x cs = (f : Forest) → SpellsTo n x cs f → ⊥

-- what was answered of the classes
abbrev pub Answered : Bool → ℕ → Category → List ℕ → Forest → State → Type 0
Answered true n x cs before s = Ended n x cs before s
Answered false n x cs before s = Unspelled n x cs
