use Rattle.unit_read.specs.Environments.{faces_in}
use Rattle.unit_read.specs.Index.{texts_of}
use Rattle.unit_read.specs.Rows.{AreRows, leads_in}
use Rattle.unit_read.proofs.leads.lead_rows.Given as goal

abbrev pub invariant-loop-file : goal.invariant-loop-file
invariant-loop-file l = AreRows (leads_in (faces_in l.env) (texts_of l.sources)) l.trees l.rows.items l.file
