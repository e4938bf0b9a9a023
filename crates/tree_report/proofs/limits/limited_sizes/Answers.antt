use Rattle.std.proofs.Common.{arith, ap, ◌∙◌, sym, ◌<◌, length}
use Rattle.tree_report.specs.Limits.{is_limited}
use Rattle.tree_report.proofs.SizeLemmas.{size-picked, size-passed}
use Rattle.tree_report.proofs.limits.limited_sizes.Goals.{then-is_limited+in_ok-push, else-is_limited}
use Rattle.tree_report.proofs.limits.limited_sizes.Goals as goal

pub loop-file-preserved : goal.loop-file-preserved
loop-file-preserved c = elim c.if-is_limited.branch [
  | then-is_limited+in_ok-push w ↦ size-picked c.args.files.now c.loop-file.file (c.at.result.0.now, c.at.result.1.now) c.loop-file.sizes.items _ c.at.ensures (inside c)
      (ap is_limited (sym c.as_bytes.ensures.value) ∙ sym c.is_limited.ensures ∙ w.if-is_limited.true) (ap (λ v. v.items) w.sizes-is ∙ w.in_ok-push.ensures.items) c.loop-file.invariant
  | else-is_limited w ↦ size-passed c.args.files.now c.loop-file.file (c.at.result.0.now, c.at.result.1.now) c.loop-file.sizes.items _ c.at.ensures (inside c)
      (ap is_limited (sym c.as_bytes.ensures.value) ∙ sym c.is_limited.ensures ∙ w.if-is_limited.false) (ap (λ v. v.items) w.sizes-is) c.loop-file.invariant
]
  where
    inside : (c : goal.Joined-is_limited) → c.loop-file.file < length c.args.files.now
    inside c = let test = c.loop-file-test.true in let count = c.count-file-end.ensures in omega (arith, test, count)
