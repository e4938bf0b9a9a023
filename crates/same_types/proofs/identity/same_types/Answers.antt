use Rattle.std.proofs.Common.{sym}
use Rattle.type_model.specs.Tables.{types_in}
use Rattle.same_types.proofs.ListLemmas.{apart}
use Rattle.same_types.proofs.identity.same_types.Goals as goal

pub returns-else-a-b : goal.returns-else-a-b
returns-else-a-b c = sym (apart (types_in c.args.t.now) c.args.a.now c.args.b.now c.if-a-b.false)
