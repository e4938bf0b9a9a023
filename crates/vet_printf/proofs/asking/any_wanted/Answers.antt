use Rattle.vet_printf.proofs.AskLemmas.{below_at}
use Rattle.type_model.specs.Tables.{count}
use Rattle.vet_printf.proofs.asking.any_wanted.Goals as goal

pub is_wanted-requires-clause-below : goal.is_wanted-requires-clause-below
is_wanted-requires-clause-below c = below_at (count c.args.t.now) c.args.methods.now c.loop-m.m-index c.m-item.result c.loop-m-test.true c.m-item.is c.requires.below
