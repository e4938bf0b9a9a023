-- The flags of a unit's names are determined.
use Rattle.std.proofs.Common.{◌≡◌, ℕ, ◌++◌, Bool, List, length, sym, ap, ◌∙◌}
use Rattle.go_tree.specs.declared.tree.FileTree.{FileTree}
use Rattle.go_tree.specs.declared.tree.NodeRef.{NodeRef}
use Rattle.scopes.specs.declared.scope.Named.{Named}
use Rattle.unit_read.specs.Units.{Unit}
use Rattle.unit_rows.specs.Redeclared.{redeclared}
use Rattle.unit_rows.specs.Tables.{is_listed}
use Rattle.unit_rows.proofs.ListLemmas.{got}
use Rattle.unit_blocks.specs.Blocks.{HasForest, HaveForests, AreNamesOf, again_in_file, again_by, inner_again, AreAgain}
use Rattle.unit_blocks.proofs.BlockLemmas.{gather_same}

one_names : (tree : FileTree) (a b : List Named) → HasForest tree → AreNamesOf tree a → AreNamesOf tree b → a ≡ b
one_names tree a b has one other = one has.0 has.1 ∙ sym (other has.0 has.1)

-- where the nodes of each file are those of trees, one list of flags fits
pub one_again : (u : Unit) (f g : NodeRef → Bool) → HaveForests u.trees → AreAgain u f → AreAgain u g → (at : NodeRef) → f at ≡ g at
one_again u f g forests one other at = one.each at ∙ (ap (λ (list : List NodeRef). is_listed u.trees (redeclared u ++ list) at) same ∙ sym (other.each at)) where
  same : inner_again u one.rows ≡ inner_again u other.rows
  same =
      gather_same (again_by u one.rows) (again_by u other.rows) (length u.trees)
      (λ k low. let (tree, there) = got u.trees k low in ap (again_in_file u k) (one_names tree _ _ (forests k tree there) (one.names k tree there) (other.names k tree there)))
