use Rattle.call_rules.proofs.ConvertLaws.{constants_convert}
use Rattle.call_rules.proofs.laws.constants_are_converted_where_convertible.Goals as goal

pub returns : goal.returns
returns c = constants_convert
