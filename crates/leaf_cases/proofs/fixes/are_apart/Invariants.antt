use Rattle.std.proofs.Common.{◌<◌, ℕ, get_or}
use Rattle.fix_apply.specs.declared.edits.Edit.{Edit}
use Rattle.fix_apply.specs.Edits.{Overlap}
use Rattle.leaf_cases.proofs.fixes.are_apart.Given as goal

abbrev pub invariant-loop-number : goal.invariant-loop-number
invariant-loop-number l = (i j : ℕ) (d : Edit) → i < j → j < l.number → ¬ (Overlap (get_or l.edits i d) (get_or l.edits j d))
