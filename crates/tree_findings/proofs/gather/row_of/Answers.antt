use Rattle.std.proofs.Common.{◌∙◌, sym}
use Rattle.tree_findings.proofs.GatherLemmas.{row-at-is}
use Rattle.tree_findings.proofs.gather.row_of.Goals as goal

pub returns : goal.returns
returns c = c.as_slice.ensures.value ∙ sym (row-at-is c.args.rows.now.items c.args.at c.index.result.now c.requires c.index.ensures)
