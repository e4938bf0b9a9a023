use Rattle.type_model.specs.Tables.{types_in}
use Rattle.type_answers.proofs.UnknownLemmas.{none_at}
use Rattle.type_answers.proofs.unknown.are_none.Goals as goal

pub returns : goal.returns
returns c = none_at (types_in c.args.s.now.table) c.args.types.now
