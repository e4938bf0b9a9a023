use Rattle.std.proofs.Common.{refl}
use Rattle.flow.proofs.CutLemmas.{flagged_more}
use Rattle.flow.proofs.statements.flagged.Goals as goal

pub loop-n-preserved : goal.loop-n-preserved
loop-n-preserved c =
    flagged_more c.args.flags.now c.loop-n.n _ c.loop-n.numbers.items c.push_if.new.numbers.items refl c.in_ok-push_if.ensures c.loop-n.invariant
