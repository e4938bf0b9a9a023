use Rattle.std.proofs.Common.{Option, sym, subst}
use Rattle.go_tree.specs.declared.tree.NodeRef.{NodeRef}
use Rattle.unit_blocks.specs.Blocks.{AddsAt}
use Rattle.unit_blocks.proofs.BlockLemmas.{adds_none}
use Rattle.unit_blocks.proofs.blocks.add_at.Goals as goal

pub returns-in-None : goal.returns-in-None
returns-in-None c =
    let old = c.args.groups.now.items in
    subst (λ (o : Option NodeRef). AddsAt old old c.args.n o) (sym c.in-None.is) (adds_none old c.args.n)
