use Rattle.std.proofs.Common.{◌≡◌, ℕ, ◌<◌, List, [], ◌∷◌, length, refl, arith}
use Rattle.std.specs.declared.cmp.Ordering.TheVariants.{Greater}
use Rattle.std.specs.Cmp.Lexicographic.{slice_cmp}
use Rattle.fix_apply.specs.declared.edits.Edit.{Edit}
use Rattle.analysis_core.specs.FoundOrder.{edit_order}
use Rattle.analysis_core.proofs.order.compare_to_none.Goals as goal

longer : (xs : List Edit) → 0 < length xs → Greater ≡ slice_cmp edit_order xs []
longer [] h = absurd (omega (arith, h))
longer (x ∷ xs) h = refl

pub returns-in-len1-up : goal.returns-in-len1-up
returns-in-len1-up c = longer c.args.left.now (let h = c.in-len1-up.len_at_least in omega (arith, h))
