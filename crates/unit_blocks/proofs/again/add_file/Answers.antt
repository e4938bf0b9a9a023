use Rattle.std.proofs.Common.{◌++◌, ℕ, List, ap, sym, subst, ◌≤◌, ◌^◌, ◌∙◌}
use Rattle.go_tree.specs.declared.tree.NodeRef.{NodeRef}
use Rattle.std.specs.Global.{Vec}
use Rattle.package_objects.specs.Declares.{gather}
use Rattle.unit_read.specs.Subjects.{unit_of}
use Rattle.unit_blocks.specs.Blocks.{again_at}
use Rattle.unit_blocks.proofs.BlockLemmas.{file_again}
use Rattle.unit_blocks.proofs.again.add_file.Goals as goal

pub blocks_of-requires : goal.blocks_of-requires
blocks_of-requires c = subst (λ (n : ℕ). n ≤ 2 ^ 32) (sym c.node_count-count.ensures) c.requires.few

pub returns : goal.returns
returns c =
    let u = unit_of c.args.s.now in
    c.in_ok-add_groups.ensures
    ∙ (ap (λ (groups : List (Vec NodeRef)). c.args.out.now.items ++ gather (again_at u groups) c.node_count-count.result) c.deref.ensures.value
    ∙ ap (λ (xs : List NodeRef). c.args.out.now.items ++ xs) (file_again u c.args.file c.node_count-count.result c.args.names.now c.in_ok-groups.groups.items c.node_count-count.ensures c.in_ok-groups.ensures))
