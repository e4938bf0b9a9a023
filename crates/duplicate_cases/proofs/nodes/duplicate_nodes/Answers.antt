use Rattle.std.proofs.Common.{ℕ, List, [], ◌≡◌, ◌++◌, ap, ◌∙◌, subst, sym}
use Rattle.std.specs.List.{Contains}
use Rattle.mark_walk.specs.Asks.{filled}
use Rattle.go_tree.specs.declared.tree.NodeRef.{NodeRef}
use Rattle.typed_marks.specs.Meanings.{Quiet}
use Rattle.typed_marks.specs.States.{so_far}
use Rattle.unit_read.specs.Subjects.{unit_of}
use Rattle.duplicate_cases.specs.InCode.{all_duplicates}
use Rattle.duplicate_cases.proofs.NodeLemmas.{gathered_are}
use Rattle.duplicate_cases.proofs.nodes.duplicate_nodes.Goals as goal

pub returns : goal.returns
returns c = λ at.
    gathered_are (unit_of c.args.u.now) (filled Quiet (so_far c.args.s.now)) at c.add_trees.new.out.items
    (c.in_ok-add_trees.ensures ∙ ap (λ (l : List NodeRef). l ++ all_duplicates (unit_of c.args.u.now).trees (filled Quiet (so_far c.args.s.now))) c.new-list.ensures.items)
