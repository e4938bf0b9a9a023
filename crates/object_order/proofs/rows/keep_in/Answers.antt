use Rattle.std.proofs.Common.{refl}
use Rattle.object_order.proofs.RowLemmas.{keeps_in}
use Rattle.object_order.proofs.rows.keep_in.Goals as goal

pub returns : goal.returns
returns c = keeps_in c.args.rows.now.items _ c.index_mut.result.now c.keep_at.new.row c.args.key c.args.number c.requires.within c.index_mut.ensures.value c.in_ok-keep_at.ensures refl
