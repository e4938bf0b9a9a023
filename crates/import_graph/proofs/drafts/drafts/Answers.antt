use Rattle.std.proofs.Common.{◌∙◌, ap, subst}
use Rattle.import_graph.specs.Packages.{is_empty}
use Rattle.import_graph.specs.Tables.{IsDraft, chosen, row_at}
use Rattle.import_graph.proofs.ListLemmas.{each-more, length-more}
use Rattle.import_graph.proofs.drafts.drafts.Goals as goal

pub loop-k-preserved : goal.loop-k-preserved
loop-k-preserved c =
    let row = row_at c.args.modules.now c.loop-k.k in
    let other = row_at c.args.stubs.now c.loop-k.k in
    record {
      size = length-more c.loop-k.drafts.items c.push.new.self.items c.in_ok-draft.draft c.loop-k.k c.loop-k.invariant.size c.in_ok-push.ensures.items;
      each = each-more (λ k d. IsDraft c.args.heads.now c.args.names.now (is_empty (row_at c.args.modules.now k)) (chosen (row_at c.args.modules.now k) (row_at c.args.stubs.now k)) d)
          c.loop-k.drafts.items c.push.new.self.items c.in_ok-draft.draft c.loop-k.k c.loop-k.invariant.size c.loop-k.invariant.each
          (subst (λ b. IsDraft c.args.heads.now c.args.names.now b (chosen row other) c.in_ok-draft.draft) (c.is_empty.ensures ∙ ap is_empty c.row_at-row.ensures)
          (subst (λ f. IsDraft c.args.heads.now c.args.names.now c.is_empty.result f c.in_ok-draft.draft)
          (c.chosen.ensures ∙ ap (λ r. chosen r c.row_at.result.now) c.row_at-row.ensures ∙ ap (chosen row) c.row_at.ensures) c.in_ok-draft.ensures))
          c.in_ok-push.ensures.items;
    }
