use Rattle.object_order.proofs.CaseLaws.{to_cases, from_cases}
use Rattle.object_order.proofs.laws.needs_are_of_four_cases.Goals as goal

pub returns : goal.returns
returns c = λ w o u. (to_cases w o u, from_cases w o u)
