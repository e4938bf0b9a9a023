use Rattle.op_rules.proofs.ApartLaws.{apart}
use Rattle.op_rules.proofs.laws.basic_types_are_apart.Goals as goal

pub returns : goal.returns
returns c = apart
