use Rattle.op_rules.proofs.LooseLaws.{goes_assigned}
use Rattle.op_rules.proofs.laws.what_goes_beside_is_assignable.Goals as goal

pub returns : goal.returns
returns c = goes_assigned
