use Rattle.std.proofs.Common.{◌∙◌, ◌++◌, ◌∷◌, [], ap, sym, map}
use Rattle.std.proofs.Common.{slice_set}
use Rattle.std.proofs.lemmas.List.{map-set}
use Rattle.tree_findings.proofs.GatherLemmas.{row-at-is}
use Rattle.tree_findings.proofs.gather.push_at.Goals as goal

pub returns : goal.returns
returns c =
    map-set (λ row. row.items) c.args.rows.now.items c.args.at c.push.new.self
    ∙ ap (λ t. slice_set (map (λ row. row.items) c.args.rows.now.items) c.args.at t)
    (c.in_ok-push.ensures.items ∙ ap (λ t. t ++ c.args.edit ∷ []) (sym (row-at-is c.args.rows.now.items c.args.at c.index_mut.result.now c.requires c.index_mut.ensures.value)))
