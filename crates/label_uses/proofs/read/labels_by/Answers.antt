use Rattle.std.proofs.Common.{Bool, List, ℕ, length, sym, subst}
use Rattle.go_tree.specs.declared.tree.Node.{Node}
use Rattle.label_uses.specs.declared.answer.Jump.{Jump}
use Rattle.label_uses.specs.declared.answer.Label.{Label}
use Rattle.label_uses.specs.Labels.{IsLabel, IsJump}
use Rattle.label_uses.specs.Parents.{at, IsTree, AreFunctions}
use Rattle.label_uses.specs.Rows.{AreGathered, HasName, IsJumpRow, IsLabelRow, AreUsed}
use Rattle.label_uses.specs.Tables.{found, AreFirst}
use Rattle.label_uses.proofs.TreeLemmas.{spelled_tree}
use Rattle.label_uses.proofs.ReadLemmas.{all_read}
use Rattle.label_uses.proofs.read.labels_by.Goals as goal

pub functions_of-requires : goal.functions_of-requires
functions_of-requires c = subst (λ (x : List Node). IsTree x) (sym c.as_slice.ensures) (spelled_tree c.args.tree.now c.args.bytes.now c.requires.spelled)

pub first_labels-requires-clause-tree : goal.first_labels-requires-clause-tree
first_labels-requires-clause-tree c = spelled_tree c.args.tree.now c.args.bytes.now c.requires.spelled

pub jumps_of-requires-clause-tree : goal.jumps_of-requires-clause-tree
jumps_of-requires-clause-tree c = spelled_tree c.args.tree.now c.args.bytes.now c.requires.spelled

pub labels_of-requires-clause-tree : goal.labels_of-requires-clause-tree
labels_of-requires-clause-tree c = spelled_tree c.args.tree.now c.args.bytes.now c.requires.spelled

pub returns : goal.returns
returns c =
    let bytes = c.args.bytes.now in
    let tree = c.args.tree.now in
    let functions = c.in_ok-functions.functions.items in
    let table = found c.in_ok-table.table in
    let jumps = c.in_ok-jumps.jumps.items in
    let used = c.in_ok-used.used.items in
    let are : AreFunctions tree.nodes functions = subst (λ (x : List Node). AreFunctions x functions) c.as_slice.ensures c.in_ok-functions.ensures in
    let firsts : AreFirst (IsLabel bytes tree) (at functions) (length tree.nodes) table = subst (λ (x : List ℕ). AreFirst (IsLabel bytes tree) (at x) (length tree.nodes) table) c.deref.ensures.value c.in_ok-table.ensures in
    let gathered : AreGathered (λ (j : Jump). j.name) (IsJumpRow (IsJump bytes tree) (at functions) table) (λ n. HasName (IsJump bytes tree n)) (length tree.nodes) jumps =
    subst (λ (x : List ℕ). AreGathered (λ (j : Jump). j.name) (IsJumpRow (IsJump bytes tree) (at x) table) (λ n. HasName (IsJump bytes tree n)) (length tree.nodes) jumps) c.deref-2.ensures.value c.in_ok-jumps.ensures in
    let flags : AreUsed jumps (length jumps) (length tree.nodes) used =
    subst (λ (x : ℕ). AreUsed jumps (length jumps) x used) c.count_nodes.ensures (subst (λ (x : List Jump). AreUsed x (length x) c.count_nodes.result used) c.deref-3.ensures.value c.in_ok-used.ensures) in
    all_read bytes tree functions table used (record { labels = c.in_ok-labels.labels; jumps = c.in_ok-jumps.jumps }) (spelled_tree tree bytes c.requires.spelled) are firsts gathered flags
    (subst (λ (x : List Bool). AreGathered (λ (l : Label). l.name) (IsLabelRow (IsLabel bytes tree) (at functions) table x) (λ n. HasName (IsLabel bytes tree n)) (length tree.nodes) c.in_ok-labels.labels.items) c.deref-5.ensures.value
    (subst (λ (x : List ℕ). AreGathered (λ (l : Label). l.name) (IsLabelRow (IsLabel bytes tree) (at x) table c.deref-5.result.now) (λ n. HasName (IsLabel bytes tree n)) (length tree.nodes) c.in_ok-labels.labels.items) c.deref-4.ensures.value
    c.in_ok-labels.ensures))
