use Rattle.std.proofs.Common.{◌<◌, ℕ, get_or}
use Rattle.fix_apply.specs.declared.edits.Edit.{Edit}
use Rattle.fix_apply.specs.Choices.{fix_at}
use Rattle.fix_apply.specs.Claims.{Claiming, IsPassedBy}
use Rattle.fix_apply.proofs.choices.claim_by_fix.Given as goal

abbrev pub invariant-loop-edit : goal.invariant-loop-edit
invariant-loop-edit l = record {
  claiming : Claiming l.fixes l.slots l.fix l.nodes.items l.choices.items;
  passed : (j : ℕ) (d : Edit) → j < l.edit-index → IsPassedBy l.slots l.nodes.items (fix_at l.fixes l.fix).file (get_or (fix_at l.fixes l.fix).edits j d);
}
