use Rattle.package_needs.proofs.OneLemmas.{marks_are_one}
use Rattle.package_needs.proofs.laws.orders_mark_the_same.Goals as goal

pub returns : goal.returns
returns c = λ uses trees elsewhere ordered a b names other w v one two p q. marks_are_one uses trees elsewhere ordered a b names other w v p q one two
