use Rattle.std.proofs.Common.{◌<◌, ℕ, get_or}
use Rattle.fix_apply.specs.declared.edits.Edit.{Edit}
use Rattle.fix_apply.specs.Edits.{Overlap}
use Rattle.leaf_cases.proofs.fixes.is_apart.Given as goal

abbrev pub invariant-loop-i : goal.invariant-loop-i
invariant-loop-i l = (k : ℕ) (d : Edit) → k < l.i → ¬ (Overlap (get_or l.edits k d) (get_or l.edits l.number d))
