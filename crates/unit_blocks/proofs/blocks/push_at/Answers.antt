use Rattle.unit_blocks.proofs.BlockLemmas.{pushes_at}
use Rattle.unit_blocks.proofs.blocks.push_at.Goals as goal

pub returns : goal.returns
returns c = pushes_at c.args.groups.now.items c.args.n c.args.at c.push.new.self c.index_mut.result.now c.requires c.index_mut.ensures.value c.in_ok-push.ensures.items
