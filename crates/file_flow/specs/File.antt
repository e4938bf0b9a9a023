-- A file's graph, and the statements of it that can't be reached, from its tree and its bytes alone.
use Rattle.std.specs.Prelude.{ℕ, Bool, true, false, List, Option, Some, None, cond, slice_get, option_and_then, bytes_eq, codes}
use Rattle.go_tree.specs.declared.tree.FileTree.{FileTree}
use Rattle.go_tree.specs.declared.tree.Node.{Node}
use Rattle.go_tree.specs.declared.tree.NodeKind.{NodeKind}
use Rattle.go_tree.specs.declared.tree.NodeKind.TheVariants as k
use Rattle.file_uses.specs.Numbers.{name_in}
use Rattle.flow.specs.Passing.{AreUnreached}
use Rattle.flow.specs.Search.{IsGraph}
use Rattle.file_flow.specs.Told.{AreTold}

abbrev pub is_call : NodeKind → Bool
is_call k.Call = true
is_call k.CallSpread = true
is_call _ = false

-- what a call calls, as it is written
abbrev pub callee_of : FileTree → ℕ → Option ℕ
callee_of tree n = option_and_then (λ (node : Node). cond (is_call node.kind) (slice_get node.parts 0) None) (slice_get tree.nodes n)

abbrev pub is_panic : Option (List ℕ) → Bool
is_panic None = false
is_panic (Some name) = bytes_eq name (codes "panic")

-- a call that is spelled `panic(..)`, whatever the name denotes
abbrev pub calls_panic : List ℕ → FileTree → ℕ → Bool
calls_panic bytes tree n = is_panic (option_and_then (name_in bytes tree) (callee_of tree n))

-- the statements of the file that can't be reached, by number: those that its labels and its calls of `panic` make so
pub record AreUnreachedIn (bytes : List ℕ) (tree : FileTree) (found : List ℕ) : Type 0 where
  pub labels : List (Option ℕ)
  pub told : AreTold bytes tree labels
  pub are : AreUnreached tree labels (calls_panic bytes tree) found

-- the graph of the file with its labels
pub record IsGraphOf (bytes : List ℕ) (tree : FileTree) (labels : List (Option ℕ)) (rows : List (List ℕ)) : Type 0 where
  pub told : AreTold bytes tree labels
  pub graph : IsGraph tree labels rows
