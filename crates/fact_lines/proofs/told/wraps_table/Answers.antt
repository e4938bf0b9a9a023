use Rattle.fact_lines.proofs.ToldLemmas.{table_is, wraps_are_read}
use Rattle.fact_lines.proofs.told.wraps_table.Goals as goal

pub returns : goal.returns
returns c = table_is wraps_are_read c.args.text.now c.in_ok-table.table c.in_ok-table.ensures.found c.in_ok-table.ensures.only
