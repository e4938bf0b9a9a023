use Rattle.type_model.specs.Tables.{types_in}
use Rattle.call_rules.proofs.ListLemmas.{how_many_at}
use Rattle.call_rules.proofs.given.how_many.Goals as goal

pub returns : goal.returns
returns c = how_many_at (types_in c.args.s.now.table) c.args.types.now
