use Rattle.type_model.specs.Tables.{types_in}
use Rattle.op_rules.proofs.TypeLemmas.{some_method}
use Rattle.op_rules.proofs.types.has_none.Goals as goal

pub returns-in-len1-up : goal.returns-in-len1-up
returns-in-len1-up c = some_method (types_in c.args.s.now.table) c.args.methods.now c.in-len1-up.len_at_least
