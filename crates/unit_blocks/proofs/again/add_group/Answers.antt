use Rattle.std.proofs.Common.{◌++◌, List, sym, ap, ◌∙◌}
use Rattle.std.proofs.lemmas.List.{append-nil}
use Rattle.go_tree.specs.declared.tree.NodeRef.{NodeRef}
use Rattle.unit_read.specs.Subjects.{unit_of}
use Rattle.unit_blocks.specs.Blocks.{declared_again}
use Rattle.unit_blocks.proofs.FewLemmas.{few_again}
use Rattle.unit_blocks.proofs.again.add_group.Goals as goal

pub returns-then-is_few : goal.returns-then-is_few
returns-then-is_few c =
    let u = unit_of c.args.s.now in
    let none = few_again u c.group-nodes.result.now (sym c.is_few.ensures ∙ c.if-is_few.true) in
    sym (ap (λ (xs : List NodeRef). c.args.out.now.items ++ xs) (ap (declared_again u) (sym c.group-nodes.ensures) ∙ none) ∙ append-nil c.args.out.now.items)

pub returns : goal.returns
returns c = c.in_ok-add_named.ensures ∙ ap (λ (nodes : List NodeRef). c.args.out.now.items ++ declared_again (unit_of c.args.s.now) nodes) c.group-nodes.ensures
