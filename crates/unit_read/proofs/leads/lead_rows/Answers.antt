use Rattle.std.proofs.Common.{ℕ, List, length, subst}
use Rattle.unit_read.specs.Environments.{faces_in}
use Rattle.unit_read.specs.Index.{texts_of}
use Rattle.unit_read.specs.Rows.{IsRow, lead_for, leads_in}
use Rattle.unit_read.proofs.CellLemmas.{rows_more, item_is}
use Rattle.unit_read.proofs.leads.lead_rows.Goals as goal

pub loop-file-preserved : goal.loop-file-preserved
loop-file-preserved c =
    let env = faces_in c.args.env.now in
    let tree = c.index-trees-file.result in
    let row = c.in_ok-tree_leads.field-0 in
    rows_more (leads_in env (texts_of c.args.sources.now)) c.args.trees.now c.loop-file.rows.items c.push.new.self.items c.loop-file.file tree row c.loop-file.invariant
    (item_is c.args.trees.now c.loop-file.file tree c.loop-file-test.true c.index-trees-file.is)
    (subst (λ (source : List ℕ). IsRow (lead_for env source tree) row.items (length tree.nodes)) c.source_of.ensures c.in_ok-tree_leads.ensures)
    c.in_ok-push.ensures.items
