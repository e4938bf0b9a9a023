use Rattle.unit_read.specs.Environments.{faces_in}
use Rattle.unit_read.specs.Rows.{IsRow, lead_for}
use Rattle.unit_read.proofs.leads.tree_leads.Given as goal

abbrev pub invariant-loop-n : goal.invariant-loop-n
invariant-loop-n l = IsRow (lead_for (faces_in l.env) l.source l.tree) l.row.items l.n
