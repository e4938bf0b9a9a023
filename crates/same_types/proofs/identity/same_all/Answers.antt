use Rattle.type_model.specs.Tables.{types_in}
use Rattle.same_types.proofs.ListLemmas.{same_on}
use Rattle.same_types.proofs.identity.same_all.Goals as goal

pub loop-i-preserved : goal.loop-i-preserved
loop-i-preserved c =
    same_on (types_in c.args.t.now) c.args.a.now c.args.b.now c.loop-i.i c.nth-x.result c.nth-y.result c.loop-i.same _ _ c.nth-x.ensures c.nth-y.ensures c.loop-i.invariant c.same_type.ensures
    c.both-same.ensures
