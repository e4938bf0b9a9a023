use Rattle.const_tree.specs.Constants.{AreBefore}
use Rattle.unit_rows.proofs.specs.end_of.Given as goal

abbrev pub invariant-loop-i : goal.invariant-loop-i
invariant-loop-i l = AreBefore l.specs l.i l.end
