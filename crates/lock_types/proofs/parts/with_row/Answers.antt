use Rattle.std.proofs.Common.{List, ℕ, [], ◌∷◌, ◌++◌, ap, ◌∙◌}
use Rattle.lock_types.proofs.PartLemmas.{row_more}
use Rattle.lock_types.proofs.parts.with_row.Goals as goal

pub returns : goal.returns
returns c =
    row_more c.args.t.now c.args.n c.args.graph c.in_ok-more.more c.in_ok-row.row.items c.requires.so_far c.in_ok-row.ensures (c.in_ok-more.ensures ∙ ap (λ (l : List ℕ). c.args.graph ++ l ∷ []) c.deref.ensures.value)
