-- Statements that pass and statements of a list that can't be reached, judged by syntax alone. It is coarser than where control may pass
-- (Go 1.17, "Terminating statements", comes closest): of calls only those count that are told, a `break` counts wherever it stands, and
-- so does a `goto`.
use Rattle.std.specs.Prelude.{ℕ, suc, ◌≡◌, ◌<◌, ◌||◌, ◌↔◌, not, Bool, true, false, List, [], ◌∷◌, length, Option, Some, None, slice_get, slice_index_or, option_map, option_and_then, cond}
use Rattle.std.specs.List.{Contains}
use Rattle.go_tree.specs.declared.tree.FileTree.{FileTree}
use Rattle.go_tree.specs.declared.tree.Node.{Node}
use Rattle.go_tree.specs.declared.tree.NodeKind.{NodeKind}
use Rattle.go_tree.specs.declared.tree.NodeKind.TheVariants as k
use Rattle.flow.specs.declared.point.Around.{Around}
use Rattle.flow.specs.declared.point.Role.{Role}
use Rattle.flow.specs.declared.point.Role.TheVariants as r
use Rattle.flow.specs.Around.{IsAround, label_at}
use Rattle.flow.specs.Edges.{before, after, has_role, may_pass, may_end}
use Rattle.flow.specs.Kinds.{is_sequence, is_branching, is_loop, is_left, is_ending, step_role, steps_of}

abbrev pub is_break : NodeKind → Bool
is_break k.Break = true
is_break _ = false

abbrev pub is_goto : NodeKind → Bool
is_goto k.Goto = true
is_goto _ = false

-- the statements of a block, or of a clause
abbrev pub is_statements : NodeKind → Bool
is_statements k.Block = true
is_statements k.List = true
is_statements _ = false

-- what a `break` leaves
abbrev pub is_leavable : NodeKind → Bool
is_leavable of = is_loop of || is_left of

-- a simple statement: none that holds others, and no jump
abbrev pub is_simple : NodeKind → Bool
is_simple of = not (is_sequence of || (is_branching of || (is_loop of || is_ending of)))

-- the statement that is labeled
abbrev pub labeled_part : FileTree → ℕ → Option ℕ
labeled_part tree l = option_and_then (λ (node : Node). slice_get node.parts 1) (slice_get tree.nodes l)

-- Behind the statement that a `break` leaves: the innermost one around it that can be left, or the one whose label it names.
abbrev pub left_with : FileTree → List (Option ℕ) → Around → Option ℕ → Option ℕ
left_with tree labels a None = a.leave
left_with tree labels a (Some j) = option_map after (option_and_then (labeled_part tree) (label_at labels j))

-- in front of the labeled statement that is named
abbrev pub named_with : List (Option ℕ) → Option ℕ → Option ℕ
named_with labels None = None
named_with labels (Some j) = option_map before (label_at labels j)

-- the point behind what the node leaves, if it is a `break`
abbrev pub break_point : FileTree → List (Option ℕ) → Node → Around → Option ℕ
break_point tree labels node a = cond (is_break node.kind) (left_with tree labels a (slice_get node.parts 0)) None

-- the point in front of what the node names, if it is a `goto`
abbrev pub goto_point : List (Option ℕ) → Node → Option ℕ
goto_point labels node = cond (is_goto node.kind) (named_with labels (slice_get node.parts 0)) None

-- node b is a `break` out of the statement in front of point q
pub record Leaves (tree : FileTree) (labels : List (Option ℕ)) (q b : ℕ) : Type 0 where
  pub node : Node
  pub around : Around
  pub there : slice_get tree.nodes b ≡ Some node
  pub known : IsAround tree b around
  pub is : break_point tree labels node around ≡ Some q

-- node g is a `goto` to the statement behind point q
pub record Names (tree : FileTree) (labels : List (Option ℕ)) (q g : ℕ) : Type 0 where
  pub node : Node
  pub there : slice_get tree.nodes g ≡ Some node
  pub is : goto_point labels node ≡ Some q

-- a `break` leaves the statement n
abbrev pub IsLeft : FileTree → List (Option ℕ) → ℕ → Type 0
IsLeft tree labels n = (b : ℕ) × Leaves tree labels (after n) b

-- a `goto` names the labeled statement n
abbrev pub IsNamed : FileTree → List (Option ℕ) → ℕ → Type 0
IsNamed tree labels n = (g : ℕ) × Names tree labels (before n) g

-- the last of the parts of a role
abbrev pub last_of : FileTree → Role → Option ℕ → List ℕ → Option ℕ
last_of tree role found [] = found
last_of tree role found (x ∷ xs) = last_of tree role (cond (has_role tree role x) (Some x) found) xs

-- the last statement of a sequence
abbrev pub last_step : FileTree → Node → Option ℕ
last_step tree node = last_of tree (step_role node.kind) None (steps_of node.kind node.parts)

-- Statements that pass; `stops` are calls that don't.
pub data Passes (tree : FileTree) (labels : List (Option ℕ)) (stops : ℕ → Bool) : ℕ → Type 0 where
  -- a simple statement, but for such a call
  simple : {n : ℕ} (node : Node) → slice_get tree.nodes n ≡ Some node → is_simple node.kind ≡ true → stops n ≡ false → Passes tree labels stops n
  -- a sequence without statements, or one whose last statement passes: a block, a list, a clause, a labeled statement
  empty : {n : ℕ} (node : Node) → slice_get tree.nodes n ≡ Some node → is_sequence node.kind ≡ true → last_step tree node ≡ None → Passes tree labels stops n
  last : {n m : ℕ} (node : Node) → slice_get tree.nodes n ≡ Some node → is_sequence node.kind ≡ true → last_step tree node ≡ Some m
      → Passes tree labels stops m → Passes tree labels stops n
  -- an `if` without `else`, a `switch` without `default`
  beside : {n : ℕ} (node : Node) → slice_get tree.nodes n ≡ Some node → is_branching node.kind ≡ true → may_pass tree node.kind node.parts ≡ true → Passes tree labels stops n
  -- a statement of which a branch or a clause passes
  arm : {n m : ℕ} (node : Node) → slice_get tree.nodes n ≡ Some node → is_branching node.kind ≡ true → Contains node.parts m → has_role tree r.Arm m ≡ true
      → Passes tree labels stops m → Passes tree labels stops n
  -- a loop with a condition or a range
  ends : {n : ℕ} (node : Node) → slice_get tree.nodes n ≡ Some node → is_loop node.kind ≡ true → may_end tree node.kind node.parts ≡ true → Passes tree labels stops n
  -- a loop, a `switch` or a `select` that a `break` leaves
  left : {n : ℕ} (node : Node) → slice_get tree.nodes n ≡ Some node → is_leavable node.kind ≡ true → IsLeft tree labels n → Passes tree labels stops n

-- A statement can't be reached: the one before it in its list doesn't pass, and no `goto` names it. A list starts reachable, and what
-- can't be reached counts as reachable for those behind it.
pub record IsUnreached (tree : FileTree) (labels : List (Option ℕ)) (stops : ℕ → Bool) (n : ℕ) : Type 0 where
  pub list : ℕ
  pub node : Node
  pub place : ℕ
  pub before : ℕ
  pub there : slice_get tree.nodes list ≡ Some node
  pub statements : is_statements node.kind ≡ true
  pub first : slice_get node.parts place ≡ Some before
  pub next : slice_get node.parts (suc place) ≡ Some n
  pub stays : Passes tree labels stops before → ⊥
  pub unnamed : IsNamed tree labels n → ⊥

-- numbers that rise, of those that have a property, and of no others
pub record AreRising (Is : ℕ → Type 0) (numbers : List ℕ) : Type 0 where
  pub rises : (j k a b : ℕ) → j < k → slice_get numbers j ≡ Some a → slice_get numbers k ≡ Some b → a < b
  pub each : (n : ℕ) → Contains numbers n ↔ Is n

-- the statements that can't be reached, each once, in the order of their numbers
abbrev pub AreUnreached : FileTree → List (Option ℕ) → (ℕ → Bool) → List ℕ → Type 0
AreUnreached tree labels stops found = AreRising (IsUnreached tree labels stops) found

-- the flag of a number
abbrev pub flag_of : List Bool → ℕ → Bool
flag_of flags n = slice_index_or flags n false

-- What the code goes through.

-- one of the parts of a role passes
abbrev pub some_passes : FileTree → Role → (ℕ → Bool) → List ℕ → Bool
some_passes tree role M [] = false
some_passes tree role M (x ∷ xs) = cond (has_role tree role x) (M x) false || some_passes tree role M xs

abbrev pub passes_if : (ℕ → Bool) → Option ℕ → Bool
passes_if M None = true
passes_if M (Some m) = M m

-- the loop, the `switch` or the `select` is left
abbrev pub is_left_at : (ℕ → Bool) → ℕ → NodeKind → Bool
is_left_at marks n of = cond (is_leavable of) (marks (after n)) false

-- whether a node passes, by the flags of its parts
abbrev pub passes_by : FileTree → (ℕ → Bool) → (ℕ → Bool) → (ℕ → Bool) → ℕ → Node → Bool
passes_by tree stops marks M n node =
    cond (is_sequence node.kind) (passes_if M (last_step tree node))
    (cond (is_branching node.kind) (is_left_at marks n node.kind || (may_pass tree node.kind node.parts || some_passes tree r.Arm M node.parts))
    (cond (is_loop node.kind) (is_left_at marks n node.kind || may_end tree node.kind node.parts)
    (cond (is_ending node.kind) false
    (not (stops n)))))

-- the points that the first few nodes give are marked, of those below a size
pub record AreMarked (Gives : ℕ → ℕ → Type 0) (few width : ℕ) (marks : List Bool) : Type 0 where
  pub size : length marks ≡ width
  pub sound : (q : ℕ) → flag_of marks q ≡ true → (b : ℕ) × Gives q b
  pub every : (q b : ℕ) → q < width → b < few → Gives q b → flag_of marks q ≡ true

-- a number more is marked, where there is one
pub record IsMarkedToo (at : Option ℕ) (old new : List Bool) : Type 0 where
  pub size : length new ≡ length old
  pub kept : (q : ℕ) → flag_of old q ≡ true → flag_of new q ≡ true
  pub marked : (q : ℕ) → at ≡ Some q → q < length old → flag_of new q ≡ true
  pub only : (q : ℕ) → flag_of new q ≡ true → flag_of old q ≡ false → at ≡ Some q

-- the flags of the first few nodes say which of them pass
pub record ArePassing (tree : FileTree) (labels : List (Option ℕ)) (stops : ℕ → Bool) (few : ℕ) (flags : List Bool) : Type 0 where
  pub size : length flags ≡ few
  pub each : (n : ℕ) → n < few → (flag_of flags n ≡ true) ↔ Passes tree labels stops n

-- no node is left by a `break`
abbrev pub none_left : ℕ → Bool
none_left q = false

-- Of the first few nodes those are flagged that pass by the flags of their parts where no node is left. They pass; others may too.
pub record AreSurelyPassing (tree : FileTree) (labels : List (Option ℕ)) (stops : ℕ → Bool) (few : ℕ) (flags : List Bool) : Type 0 where
  pub size : length flags ≡ few
  pub told : (n : ℕ) → n < few → (node : Node) → slice_get tree.nodes n ≡ Some node → flag_of flags n ≡ passes_by tree stops none_left (flag_of flags) n node
  pub each : (n : ℕ) → n < few → flag_of flags n ≡ true → Passes tree labels stops n

-- the second of two parts, where the first doesn't pass and the second isn't named
abbrev pub cut_part : (ℕ → Bool) → (ℕ → Bool) → Option ℕ → Option ℕ → Option ℕ
cut_part passing named None next = None
cut_part passing named (Some first) None = None
cut_part passing named (Some first) (Some next) = cond (passing first) None (cond (named next) None (Some next))

-- what is cut off by the part at a place, if that is the one behind it
abbrev pub cut_at : (ℕ → Bool) → (ℕ → Bool) → List ℕ → ℕ → Option ℕ
cut_at passing named parts i = cut_part passing named (slice_get parts i) (slice_get parts (suc i))

-- where no statement is named by a `goto`
abbrev pub nowhere_named : ℕ → Bool
nowhere_named n = flag_of [] (before n)

-- n is cut off by one of the first few parts
abbrev pub IsCutOff : (ℕ → Bool) → (ℕ → Bool) → List ℕ → ℕ → ℕ → Type 0
IsCutOff passing named parts few n = (i : ℕ) × (i < few) × (cut_at passing named parts i ≡ Some n)

-- those are marked that are so
pub record AreMarkedBehind (passing named : ℕ → Bool) (parts : List ℕ) (few : ℕ) (old new : List Bool) : Type 0 where
  pub size : length new ≡ length old
  pub kept : (n : ℕ) → flag_of old n ≡ true → flag_of new n ≡ true
  pub marked : (n : ℕ) → IsCutOff passing named parts few n → n < length old → flag_of new n ≡ true
  pub only : (n : ℕ) → flag_of new n ≡ true → flag_of old n ≡ false → IsCutOff passing named parts few n

-- the statements of a node, if it has statements
abbrev pub statements_of : Node → List ℕ
statements_of node = cond (is_statements node.kind) node.parts []

-- n is cut off in a list of statements, node p
pub record IsCutOffIn (passing named : ℕ → Bool) (nodes : List Node) (n p : ℕ) : Type 0 where
  pub node : Node
  pub there : slice_get nodes p ≡ Some node
  pub cut : IsCutOff passing named (statements_of node) (length (statements_of node)) n

-- the numbers whose flag is set, among the first few
pub record AreFlagged (flags : List Bool) (few : ℕ) (numbers : List ℕ) : Type 0 where
  pub rises : (j k a b : ℕ) → j < k → slice_get numbers j ≡ Some a → slice_get numbers k ≡ Some b → a < b
  pub each : (n : ℕ) → Contains numbers n → (n < few) × (flag_of flags n ≡ true)
  pub every : (n : ℕ) → n < few → flag_of flags n ≡ true → Contains numbers n
