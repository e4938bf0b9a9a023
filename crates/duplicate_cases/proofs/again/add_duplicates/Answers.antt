use Rattle.std.proofs.Common.{◌≡◌, ◌++◌, ℕ, List, length, ap, ◌∙◌, subst, sym}
use Rattle.go_tree.specs.declared.tree.NodeRef.{NodeRef}
use Rattle.package_objects.specs.Declares.{gather}
use Rattle.typed_marks.specs.declared.mark.Mark.{Mark}
use Rattle.std.specs.Prelude.{Option}
use Rattle.duplicate_cases.specs.InCode.{spelled_at, again_at}
use Rattle.duplicate_cases.proofs.KeyLemmas.{duplicates_are}
use Rattle.duplicate_cases.proofs.again.add_duplicates.Goals as goal

pub returns : goal.returns
returns c =
    c.in_ok-add_again.ensures
    ∙ (ap (λ (l : List (Option Mark)). c.args.out.now.items ++ gather (again_at (spelled_at c.args.s.now c.args.of_types l) c.args.file c.args.list.now) (length c.args.list.now)) c.deref.ensures.value
    ∙ ap (λ (l : List NodeRef). c.args.out.now.items ++ l) (duplicates_are c.args.s.now c.requires.table c.args.of_types c.args.file c.args.list.now c.in_ok-marks.marks.items c.in_ok-marks.ensures))
