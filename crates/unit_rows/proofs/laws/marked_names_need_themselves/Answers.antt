use Rattle.unit_rows.proofs.CyclicLemmas.{marks_cyclic}
use Rattle.unit_rows.proofs.laws.marked_names_need_themselves.Goals as goal

pub returns : goal.returns
returns c = λ uses trees elsewhere order. marks_cyclic uses trees elsewhere order
