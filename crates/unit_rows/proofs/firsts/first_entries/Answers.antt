use Rattle.std.proofs.Common.{sym, ◌∙◌}
use Rattle.unit_rows.proofs.ReadLemmas.{firsts_read}
use Rattle.unit_rows.proofs.GapLemmas.{no_entry, bare_first}
use Rattle.unit_rows.proofs.firsts.first_entries.Goals as goal

pub returns-then-is_bare : goal.returns-then-is_bare
returns-then-is_bare c = λ at. no_entry _ c.new.ensures.items at ∙ sym (bare_first c.args.trees.now c.args.list.now at (sym c.is_bare.ensures ∙ c.if-is_bare.true))

pub returns : goal.returns
returns c = λ at. c.in_ok-table.ensures at ∙ firsts_read c.args.trees.now c.args.list.now c.in_ok-cells.cells.items c.in_ok-cells.ensures at
