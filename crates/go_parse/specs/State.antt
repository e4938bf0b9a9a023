-- The state of the parser, what a turn makes of it, and what it may still become.
use Rattle.std.specs.Prelude.{ℕ, suc, ◌≡◌, ◌-◌, ◌<◌, ◌≤◌, Bool, true, List, [], ◌∷◌, ◌++◌, length, take, drop, cond, ◌&&◌, ◌||◌, Option, Some, None, nat_lt, nat_le, ◌==◌}
use Rattle.go_tree.specs.declared.grammar.Setting.{Setting}
use Rattle.go_tree.specs.declared.tree.NodeKind.{NodeKind}
use Rattle.go_tree.specs.declared.grammar.Ending.{Ending}
use Rattle.go_tree.specs.declared.grammar.Ending.TheVariants.{Is, Bare, Tail}
use Rattle.go_tree.specs.declared.grammar.Symbol.{Symbol}
use Rattle.go_tree.specs.declared.grammar.Symbol.TheVariants.{Token, Part, Inline, Operand}
use Rattle.go_parse.specs.declared.parser.Task.{Task}
use Rattle.go_parse.specs.declared.parser.Task.TheVariants.{Want, Close, After}
use Rattle.go_tree.specs.Forest.{Forest, ◌⊕◌, count, front, back}
use Rattle.go_tree.specs.Arena.{node_of, flat, roots, heights, highest, kinds}
use Rattle.go_tree.specs.Classes.{level_of}
use Rattle.go_tree.specs.Follow.{follow}
use Rattle.go_tree.specs.Operands.{suffixes}
use Rattle.go_tree.specs.Rule.{Rule}
use Rattle.go_tree.specs.Terminals.{admits}
use Rattle.go_tree.specs.declared.tree.Node.{Node}
use Rattle.go_tree.specs.Shape.{shape}
use Rattle.go_tree.specs.Choice.{begins, rest, first_symbol, follow_symbol, may_be_empty, pick_inline, pick_node, pick_prefix, pick_suffix}
use Rattle.go_tree.specs.Spells.{Among, Spells, Closes}

abbrev pub wants : List Symbol → List Task
wants [] = []
wants (s ∷ ss) = Want s ∷ wants ss

-- top of the stack first; the nodes made; those that no node_of has as a part yet
pub record State : Type 0 where
  pub stack : List Task
  pub nodes : List Node
  pub pending : List ℕ
  pub heights : List ℕ
  pub kinds : List NodeKind

pub data Outcome : Type 0 where
  Goes : State → Outcome
  Takes : State → Outcome
  Refuses : Outcome

abbrev pub pushed : List Task → State → State
pushed k s = record { stack = k ++ s.stack; nodes = s.nodes; pending = s.pending; heights = s.heights; kinds = s.kinds }

abbrev pub on_some : {A : Type 0} → Option A → Outcome → (A → Outcome) → Outcome
on_some None o f = o
on_some (Some a) o f = f a

abbrev pub noded : ℕ → Rule → List Task → State → State
noded at r k s = pushed (wants r.symbols ++ (Close r.ending at (length s.pending) ∷ k)) s

-- What a turn makes of the state under the item: c is the class of the next token, which stands at a place.
abbrev pub turned : Task → ℕ → ℕ → State → Outcome
turned (Want (Token t)) c at s = cond (admits t c) (Takes s) Refuses
turned (Want (Part x)) c at s = Goes (pushed (Close (Tail x) at (length s.pending) ∷ []) s)
turned (Want (Inline x)) c at s = on_some (pick_inline x c) Refuses (λ r. Goes (pushed (wants r) s))
turned (Want (Operand p l)) c at s = on_some (pick_prefix l c) Refuses (λ r. cond (nat_le p r.level) (Goes (noded at r (After p r.level l at (length s.pending) ∷ []) s)) Refuses)
turned (Close (Tail x) a base) c at s = on_some (pick_node x c (shape (drop base s.kinds))) Refuses (λ r. Goes (pushed (wants r.symbols ++ (Close r.ending a base ∷ [])) s))
turned (Close (Is kind) a base) c at s = Goes (record { stack = s.stack; nodes = s.nodes ++ node_of kind a (at - 1) (drop base s.pending) ∷ []; pending = take base s.pending ++ length s.nodes ∷ []; heights = take base s.heights ++ suc (highest (drop base s.heights)) ∷ []; kinds = take base s.kinds ++ kind ∷ [] })
turned (Close Bare a base) c at s = Goes s
turned (After p q l a base) c at s = on_some (pick_suffix l c) (Goes s) (λ r. cond (nat_le p r.level && nat_le r.left q) (Goes (pushed (wants r.symbols ++ (Close r.ending a base ∷ After p r.level l a base ∷ [])) s)) (Goes s))

-- What an outcome comes to by further turns before the class c, which stands at a place: none, or that of the topmost item and what comes of it.
pub data Runs (c at : ℕ) : Outcome → Outcome → Type 0 where
  stay : {o : Outcome} → Runs c at o o
  on : {i : Task} {s : State} {o : Outcome} → Runs c at (turned i c at s) o → Runs c at (Goes (pushed (i ∷ []) s)) o

-- A left side that goes on with suffixes, each of a level between p and that of its left side.
pub data Grows (n p a : ℕ) (l : Setting) : ℕ → Forest → List ℕ → Forest → List ℕ → Type 0 where
  stop : {q : ℕ} {left : Forest} {xs : List ℕ} → Grows n p a l q left xs left xs
  goes_on : {q : ℕ} {left parts t f : Forest} {xs ws ys zs : List ℕ}
      → (r : Rule) → Among r (suffixes l) → p ≤ r.level → r.left ≤ q → Spells n r.symbols parts xs ws → Closes n r.ending a (left ⊕ parts) t ws ys
      → Grows n p a l r.level t ys f zs
      → Grows n p a l q left xs f zs

-- Which trees a stack may still make of those that are done and of the tokens that are left.
abbrev pub Completes : ℕ → List Task → Forest → List ℕ → Forest → Type 0
Completes n [] g xs f = (xs ≡ []) × (g ≡ f)
Completes n (Want s ∷ k) g xs f = (t : Forest) × (ys : List ℕ) × Spells n (s ∷ []) t xs ys × Completes n k (g ⊕ t) ys f
Completes n (Close e a base ∷ k) g xs f = (t : Forest) × (ys : List ℕ) × Closes n e a (back base g) t xs ys × Completes n k (front base g ⊕ t) ys f
Completes n (After p q l a base ∷ k) g xs f = (t : Forest) × (ys : List ℕ) × Grows n p a l q (back base g) xs t ys × Completes n k (front base g ⊕ t) ys f

-- the tokens that a stack may go on with
abbrev pub opens : List Task → ℕ → Bool
opens [] c = c == 75
opens (Want s ∷ k) c = first_symbol s c || (may_be_empty s && opens k c)
opens (Close e a base ∷ k) c = begins (rest e) (opens k) c
opens (After p q l a base ∷ k) c = (nat_le p (level_of c) && nat_le (level_of c) q) || opens k c

abbrev pub Tidy : Ending → List Task → Type 0
Tidy (Is k) st = Unit {0}
Tidy Bare st = Unit {0}
Tidy (Tail x) st = (c : ℕ) → c < 77 → opens st c ≡ true → follow x c ≡ true

-- What may come after each part is in its follow set.
abbrev pub Orderly : List Task → Type 0
Orderly [] = Unit {0}
Orderly (Want s ∷ k) = ((c : ℕ) → c < 77 → opens k c ≡ true → follow_symbol s c ≡ true) × Orderly k
Orderly (Close e a base ∷ k) = Tidy e k × Orderly k
Orderly (After p q l a base ∷ k) = ((c : ℕ) → c < 77 → opens k c ≡ true → nat_lt (level_of c) p ≡ true) × Orderly k

-- Where a node_of begins among m or more pending ones, there are that many.
abbrev pub Based : List Task → ℕ → Type 0
Based [] m = Unit {0}
Based (Want s ∷ k) m = Based k m
Based (Close kind a base ∷ k) m = (base ≤ m) × Based k base
Based (After p q l a base ∷ k) m = (base ≤ m) × Based k base

pub record Holds (s : State) (g : Forest) : Type 0 where
  pub nodes : s.nodes ≡ flat 0 g
  pub pending : s.pending ≡ roots 0 g
  pub heights : s.heights ≡ heights g
  pub kinds : s.kinds ≡ kinds g
  pub orderly : Orderly s.stack
  pub based : Based s.stack (count g)

-- Both states may become the same trees.
pub record Led (n : ℕ) (xs : List ℕ) (s : State) (g : Forest) (s' : State) : Type 0 where
  pub g' : Forest
  pub holds : Holds s' g'
  pub goes : (f : Forest) → Completes n s.stack g xs f → Completes n s'.stack g' xs f
  pub comes : (f : Forest) → Completes n s'.stack g' xs f → Completes n s.stack g xs f

abbrev pub Leads : ℕ → List ℕ → State → State → Type 0
Leads n xs s s' = (g : Forest) → Holds s g → Led n xs s g s'

abbrev pub Fails : ℕ → List ℕ → State → Type 0
Fails n xs s = (g : Forest) → Holds s g → (f : Forest) → Completes n s.stack g xs f → ⊥

-- Where x is taken, both states may become the same trees.
pub record Passed (n : ℕ) (x : ℕ) (xs : List ℕ) (s : State) (g : Forest) (s' : State) : Type 0 where
  pub g' : Forest
  pub holds : Holds s' g'
  pub goes : (f : Forest) → Completes n s.stack g (x ∷ xs) f → Completes n s'.stack g' xs f
  pub comes : (f : Forest) → Completes n s'.stack g' xs f → Completes n s.stack g (x ∷ xs) f

abbrev pub Passes : ℕ → List ℕ → State → State → Type 0
Passes n xs s s' = ((x : ℕ) (ys : List ℕ) → xs ≡ x ∷ ys → (g : Forest) → Holds s g → Passed n x ys s g s') × (xs ≡ [] → Fails n xs s)

abbrev pub Stops : ℕ → List ℕ → State → State → Type 0
Stops n xs s s' = Leads n xs s s' × (s'.stack ≡ [])
