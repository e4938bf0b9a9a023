use Rattle.std.proofs.Common.{slice_get, option_and_then, sym, ap, ◌∙◌}
use Rattle.unit_read.specs.Environments.{faces_in}
use Rattle.unit_read.specs.Rows.{lead_in, lead_for}
use Rattle.unit_read.proofs.CellLemmas.{row_more, item_is}
use Rattle.unit_read.proofs.leads.tree_leads.Goals as goal

pub loop-n-preserved : goal.loop-n-preserved
loop-n-preserved c =
    let env = faces_in c.args.env.now in
    let there = item_is c.as_slice-nodes.result.now c.loop-n.n c.index-nodes-n.result c.loop-n-test.true c.index-nodes-n.is in
    row_more (lead_for env c.args.source.now c.args.tree.now) c.loop-n.row.items c.push.new.self.items c.loop-n.n c.in_ok-lead.lead c.loop-n.invariant
    (c.in_ok-lead.ensures ∙ sym (ap (option_and_then (lead_in env c.args.source.now c.args.tree.now)) (ap (λ xs. slice_get xs c.loop-n.n) (sym c.as_slice-nodes.ensures) ∙ there)))
    c.in_ok-push.ensures.items
