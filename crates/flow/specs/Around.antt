-- Where jumps lead (Go 1.17, "Break statements", "Continue statements", "Goto statements", "Fallthrough statements").
use Rattle.std.specs.Prelude.{ℕ, suc, ◌≡◌, ◌<◌, ◌≤◌, ◌⊎◌, List, length, Option, Some, None, slice_get, slice_index_or, option_map, option_and_then, cond}
use Rattle.go_tree.specs.declared.tree.FileTree.{FileTree}
use Rattle.go_tree.specs.declared.tree.Node.{Node}
use Rattle.go_tree.specs.declared.tree.NodeKind.{NodeKind}
use Rattle.go_tree.specs.declared.tree.NodeKind.TheVariants as k
use Rattle.go_tree.specs.Kinds.{is_function}
use Rattle.flow.specs.declared.point.Around.{Around}
use Rattle.flow.specs.Kinds.{is_loop, is_left, is_switch}
use Rattle.flow.specs.Edges.{before, after, turn_point}

abbrev pub nowhere : Around
nowhere = record { leave = None; again = None; fall = None }

abbrev pub looped : ℕ → ℕ → Around
looped leave again = record { leave = Some leave; again = Some again; fall = None }

abbrev pub chosen : ℕ → Around → Option ℕ → Around
chosen leave around fall = record { leave = Some leave; again = around.again; fall = fall }

-- before the part that comes next
abbrev pub next_part : List ℕ → ℕ → Option ℕ
next_part parts i = option_map before (slice_get parts (suc i))

-- Where jumps without a label lead inside the part at place i of node p. A function's body sees nothing outside. A loop is left and begun
-- again; a `switch` or a `select` is left; `fallthrough` leads to the next clause of a `switch` on expressions.
abbrev pub inside : FileTree → ℕ → Node → ℕ → Around → Around
inside tree p node i around =
    cond (is_function node.kind) nowhere
    (cond (is_loop node.kind) (looped (after p) (turn_point tree p node.parts))
    (cond (is_left node.kind) (chosen (after p) around (cond (is_switch node.kind) (next_part node.parts i) None))
    around))

-- n is the part at place i of p
abbrev pub IsPartAt : List Node → ℕ → ℕ → ℕ → Type 0
IsPartAt nodes p i n = (node : Node) × (slice_get nodes p ≡ Some node) × (slice_get node.parts i ≡ Some n)

-- A node is a part of one node at most, at one place, and that node comes after it.
pub record IsTree (nodes : List Node) : Type 0 where
  pub one : (p q i j n : ℕ) → IsPartAt nodes p i n → IsPartAt nodes q j n → (p ≡ q) × (i ≡ j)
  pub after : (p i n : ℕ) → IsPartAt nodes p i n → n < p

-- where jumps without a label lead in a node
pub data IsAround (tree : FileTree) : ℕ → Around → Type 0 where
  top : {n : ℕ} → ((p i : ℕ) → IsPartAt tree.nodes p i n → ⊥) → IsAround tree n nowhere
  part : {n : ℕ} {a : Around} (p i : ℕ) (node : Node) (b : Around) → slice_get tree.nodes p ≡ Some node → slice_get node.parts i ≡ Some n
      → a ≡ inside tree p node i b → IsAround tree p b → IsAround tree n a

-- where a jump of this kind without a label leads
abbrev pub bare_target : NodeKind → Around → Option ℕ
bare_target k.Break a = a.leave
bare_target k.Continue a = a.again
bare_target k.Fallthrough a = a.fall
bare_target _ a = None

-- the next turn of a statement, if it is a loop
abbrev pub turn_of : FileTree → ℕ → Option ℕ
turn_of tree s = option_and_then (λ (node : Node). cond (is_loop node.kind) (Some (turn_point tree s node.parts)) None) (slice_get tree.nodes s)

-- the next turn of the loop that a labeled statement is
abbrev pub labeled_turn : FileTree → ℕ → Option ℕ
labeled_turn tree l = option_and_then (λ (node : Node). option_and_then (turn_of tree) (slice_get node.parts 1)) (slice_get tree.nodes l)

-- where a jump of this kind to a labeled statement leads
abbrev pub labeled_target : FileTree → NodeKind → ℕ → Option ℕ
labeled_target tree k.Break l = Some (after l)
labeled_target tree k.Continue l = labeled_turn tree l
labeled_target tree k.Goto l = Some (before l)
labeled_target tree _ l = None

-- the labeled statement that the name behind a jump denotes, as it is told
abbrev pub label_at : List (Option ℕ) → ℕ → Option ℕ
label_at labels j = slice_index_or labels j None

-- where a node leads, if it is a jump: where these labels are denoted, and jumps without a label lead so
abbrev pub target_with : FileTree → List (Option ℕ) → NodeKind → Around → Option ℕ → Option ℕ
target_with tree labels kind a None = bare_target kind a
target_with tree labels kind a (Some j) = option_and_then (labeled_target tree kind) (label_at labels j)

abbrev pub target_of : FileTree → List (Option ℕ) → Node → Around → Option ℕ
target_of tree labels node a = target_with tree labels node.kind a (slice_get node.parts 0)

-- what is told of a node
abbrev pub around_at : List Around → ℕ → Around
around_at table n = slice_index_or table n nowhere

pub record AreAround (tree : FileTree) (table : List Around) : Type 0 where
  pub size : length table ≡ length tree.nodes
  pub each : (n : ℕ) → n < length tree.nodes → IsAround tree n (around_at table n)

-- the first few parts of p have what is inside of it, and the other nodes what they had
pub record AreGiven (tree : FileTree) (p : ℕ) (node : Node) (a : Around) (few : ℕ) (old new : List Around) : Type 0 where
  pub size : length new ≡ length old
  pub each : (n : ℕ) → ((i : ℕ) × (slice_get node.parts i ≡ Some n) × (around_at new n ≡ inside tree p node i a))
      ⊎ ((around_at new n ≡ around_at old n) × ((i : ℕ) → i < few → slice_get node.parts i ≡ Some n → ⊥))

-- the parts of the nodes from a few on have what is around them, and the others nothing yet
pub record AreFilled (tree : FileTree) (few : ℕ) (table : List Around) : Type 0 where
  pub size : length table ≡ length tree.nodes
  pub each : (n : ℕ) → n < length tree.nodes → IsAround tree n (around_at table n)
      ⊎ ((around_at table n ≡ nowhere) × ((p i : ℕ) → few ≤ p → IsPartAt tree.nodes p i n → ⊥))
