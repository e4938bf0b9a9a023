use Rattle.top_calls.proofs.KeepLaws.{Finds-of}
use Rattle.top_calls.proofs.keep.open.Goals as goal

pub returns-in-Ok-Some-clause-finds : goal.returns-in-Ok-Some-clause-finds
returns-in-Ok-Some-clause-finds g c = Finds-of (g.K.Keeper.view c.args.keeper.now).kept c.in-Ok-Some.bytes.items c.read_cache.result (rw c.in-Ok-Some.field-0-is at c.in-Ok-Some.ensures.answers) (rw c.as_slice.ensures.value at c.read_cache.ensures.finds)
