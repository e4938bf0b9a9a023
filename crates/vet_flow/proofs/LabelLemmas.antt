-- What can't be reached, by labels that denote the same.
use Rattle.std.proofs.Common.{◌≡◌, ℕ, Bool, Option, Some, None, List, cond, slice_get, option_map, refl, sym, ap, ◌∙◌}
use Rattle.std.specs.Prelude.{option_and_then}
use Rattle.go_tree.specs.declared.tree.FileTree.{FileTree}
use Rattle.go_tree.specs.declared.tree.Node.{Node}
use Rattle.flow.specs.declared.point.Around.{Around}
use Rattle.flow.specs.Around.{label_at}
use Rattle.flow.specs.Edges.{before}
use Rattle.flow.specs.Passing.{is_break, is_goto, labeled_part, left_with, named_with, break_point, goto_point, IsLeft, IsNamed, Passes, simple, empty, last, beside, arm, ends, left, IsUnreached}
use Rattle.flow.specs.Edges.{after}
use Rattle.file_flow.specs.Told.{AreTold}

module _ (tree : FileTree) (labels other : List (Option ℕ)) (same : (j : ℕ) → label_at labels j ≡ label_at other j) where
  named_same : (o : Option ℕ) → named_with labels o ≡ named_with other o
  named_same None = refl
  named_same (Some j) = ap (λ x. option_map before x) (same j)

  left_same : (a : Around) (o : Option ℕ) → left_with tree labels a o ≡ left_with tree other a o
  left_same a None = refl
  left_same a (Some j) = ap (λ x. option_map after (option_and_then (labeled_part tree) x)) (same j)

  break_same : (node : Node) (a : Around) → break_point tree labels node a ≡ break_point tree other node a
  break_same node a = ap (λ x. cond (is_break node.kind) x None) (left_same a (slice_get node.parts 0))

  goto_same : (node : Node) → goto_point labels node ≡ goto_point other node
  goto_same node = ap (λ x. cond (is_goto node.kind) x None) (named_same (slice_get node.parts 0))

  left_moved : (n : ℕ) → IsLeft tree labels n → IsLeft tree other n
  left_moved n (b, l) = (b, record { node = l.node; around = l.around; there = l.there; known = l.known; is = sym (break_same l.node l.around) ∙ l.is })

  named_moved : (n : ℕ) → IsNamed tree labels n → IsNamed tree other n
  named_moved n (g, l) = (g, record { node = l.node; there = l.there; is = sym (goto_same l.node) ∙ l.is })

  passes_moved : (stops : ℕ → Bool) (n : ℕ) → Passes tree labels stops n → Passes tree other stops n
  passes_moved stops n (simple node there kind goes) = simple node there kind goes
  passes_moved stops n (empty node there kind none) = empty node there kind none
  passes_moved stops n (last {m = m} node there kind step passes) = last node there kind step (passes_moved stops m passes)
  passes_moved stops n (beside node there kind may) = beside node there kind may
  passes_moved stops n (arm {m = m} node there kind part role passes) = arm node there kind part role (passes_moved stops m passes)
  passes_moved stops n (ends node there kind may) = ends node there kind may
  passes_moved stops n (left node there kind by) = left node there kind (left_moved n by)

unreached_moved : (tree : FileTree) (labels other : List (Option ℕ)) (stops : ℕ → Bool) (n : ℕ) → ((j : ℕ) → label_at labels j ≡ label_at other j) → IsUnreached tree labels stops n → IsUnreached tree other stops n
unreached_moved tree labels other stops n same is = record {
  list = is.list;
  node = is.node;
  place = is.place;
  before = is.before;
  there = is.there;
  statements = is.statements;
  first = is.first;
  next = is.next;
  stays = λ passes. is.stays (passes_moved tree other labels (λ j. sym (same j)) stops is.before passes);
  unnamed = λ named. is.unnamed (named_moved tree other labels (λ j. sym (same j)) n named);
}

-- a file's labels denote the same
one_label : (bytes : List ℕ) (tree : FileTree) (labels other : List (Option ℕ)) → AreTold bytes tree labels → AreTold bytes tree other → (j : ℕ) → label_at labels j ≡ label_at other j
one_label bytes tree labels other told also j = by (label_at labels j) (label_at other j) (λ l e. also.every j l (told.sound j l e)) (λ l e. told.every j l (also.sound j l e)) where
  by : (o p : Option ℕ) → ((l : ℕ) → o ≡ Some l → p ≡ Some l) → ((l : ℕ) → p ≡ Some l → o ≡ Some l) → o ≡ p
  by None None here there = refl
  by None (Some l) here there = there l refl
  by (Some l) p here there = sym (here l refl)

pub dead_moved : (bytes : List ℕ) (tree : FileTree) (labels other : List (Option ℕ)) (stops : ℕ → Bool) (n : ℕ) → AreTold bytes tree labels → AreTold bytes tree other → IsUnreached tree labels stops n
    → IsUnreached tree other stops n
dead_moved bytes tree labels other stops n told also is = unreached_moved tree labels other stops n (one_label bytes tree labels other told also) is
