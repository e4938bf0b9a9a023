use Rattle.std.proofs.Common.{◌<◌, ◌≤◌, ℕ, length, get_or}
use Rattle.fix_apply.specs.declared.edits.Edit.{Edit}
use Rattle.leaf_cases.proofs.fixes.lie_in.Given as goal

abbrev pub invariant-loop-edit : goal.invariant-loop-edit
invariant-loop-edit l = (k : ℕ) (d : Edit) → k < l.edit-index → ((get_or l.edits k d).start ≤ (get_or l.edits k d).end) × ((get_or l.edits k d).end ≤ length l.bytes)
