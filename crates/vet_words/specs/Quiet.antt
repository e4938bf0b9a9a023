-- Quiet expressions: what they compute is the same each time, as far as can be told from their form.
use Rattle.std.specs.Prelude.{ℕ, ◌&&◌, ◌||◌, Bool, true, false, not, is_some, List, [], ◌∷◌, length, Option, slice_index_or, option_and_then}
use Rattle.const_eval.specs.declared.operator.Operator.{Operator}
use Rattle.const_tree.specs.Operators.{unary_operator}
use Rattle.go_tree.specs.declared.tree.FileTree.{FileTree}
use Rattle.go_tree.specs.declared.tree.Node.{Node}
use Rattle.node_values.specs.Filled.{values}
use Rattle.typed_marks.specs.declared.item.Item.{Item}
use Rattle.typed_marks.specs.Meanings.{Meaning}
use Rattle.unit_read.specs.Units.{Unit, tree_at, nodes_at}
use Rattle.vet_words.specs.Forms.{is_call, is_unary}
use Rattle.vet_words.specs.Marked.{is_conversion, names_type}

-- ---- what is not quiet by itself

-- a call that is no conversion
abbrev pub calls : (Item → Meaning) → ℕ → Node → Bool
calls marks f node = is_call node.kind && not (is_conversion marks f node)

abbrev pub unary_at : Unit → ℕ → Node → Option Operator
unary_at u f node = option_and_then (λ (tree : FileTree). unary_operator tree node) (tree_at u f)

-- an arrow: of unary operators it alone is none of constants
abbrev pub is_arrow : Unit → ℕ → Node → Bool
is_arrow u f node = is_unary node.kind && not (is_some (unary_at u f node))

-- "Receive operator"; an arrow before a channel type is a type
abbrev pub receives : Unit → (Item → Meaning) → ℕ → ℕ → Node → Bool
receives u marks f n node = is_arrow u f node && not (names_type marks f n)

abbrev pub is_noisy : Unit → (Item → Meaning) → ℕ → ℕ → Node → Bool
is_noisy u marks f n node = calls marks f node || receives u marks f n node

-- ---- with all that a node holds

-- all of these are quiet
abbrev pub all_quiet : List Bool → List ℕ → Bool
all_quiet so_far [] = true
all_quiet so_far (n ∷ list) = slice_index_or so_far n false && all_quiet so_far list

abbrev pub quiet_rule : Unit → (Item → Meaning) → ℕ → List Bool → Node → Bool
quiet_rule u marks f so_far node = not (is_noisy u marks f (length so_far) node) && all_quiet so_far node.parts

-- each node of a file, by those before it: what it holds comes before it
abbrev pub quiet_nodes : Unit → (Item → Meaning) → ℕ → List Bool
quiet_nodes u marks f = values (quiet_rule u marks f) (nodes_at u f)

-- The node has no call other than a conversion and no receive, itself or in what it holds.
abbrev pub is_quiet : Unit → (Item → Meaning) → ℕ → ℕ → Bool
is_quiet u marks f n = slice_index_or (quiet_nodes u marks f) n false
