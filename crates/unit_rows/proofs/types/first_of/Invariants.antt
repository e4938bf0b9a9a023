use Rattle.std.proofs.Common.{◌≡◌, ℕ, List, take}
use Rattle.unit_read.specs.Index.{found}
use Rattle.unit_read.specs.Subjects.{unit_of, top_name}
use Rattle.unit_read.specs.Units.{named_by}
use Rattle.unit_rows.proofs.types.first_of.Given as goal

abbrev pub invariant-loop-k : goal.invariant-loop-k
invariant-loop-k l = (q : List ℕ) → found l.named q ≡ named_by (unit_of l.s) (top_name (unit_of l.s) q) (take l.k l.list)
