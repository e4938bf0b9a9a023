use Rattle.std.proofs.Common.{◌≡◌, length}
use Rattle.fix_apply.specs.Choices.{fix_at}
use Rattle.fix_apply.specs.Claims.{Claiming, OnlyCloses, open_of}
use Rattle.fix_apply.proofs.choices.claim_by_edit.Given as goal

abbrev pub invariant-loop-p : goal.invariant-loop-p
invariant-loop-p l = record {
  claiming : Claiming l.fixes l.slots l.fix l.nodes.items l.choices.items;
  closes : OnlyCloses l.slots l.initial.nodes.items l.nodes.items;
  of_fix : l.file ≡ (fix_at l.fixes l.fix).file;
}

abbrev pub decreases-loop-p : goal.decreases-loop-p
decreases-loop-p l = open_of l.slots l.nodes.items (length l.slots)
