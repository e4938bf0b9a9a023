use Rattle.fact_lines.proofs.ToldLemmas.{never_read, table_is}
use Rattle.fact_lines.proofs.told.never_table.Goals as goal

pub returns : goal.returns
returns c = table_is never_read c.args.text.now c.in_ok-table.table c.in_ok-table.ensures.found c.in_ok-table.ensures.only
