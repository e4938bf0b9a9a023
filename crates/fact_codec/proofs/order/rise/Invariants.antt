use Rattle.std.proofs.Common.{◌≡◌, length}
use Rattle.fact_codec.specs.Tables.{rises_from, names_rise}
use Rattle.fact_codec.proofs.order.rise.Given as goal

abbrev pub invariant-loop-rest : goal.invariant-loop-rest
invariant-loop-rest g l = rises_from l.last.0 l.rest ≡ names_rise l.list

abbrev pub decreases-loop-rest : goal.decreases-loop-rest
decreases-loop-rest g l = length l.rest
