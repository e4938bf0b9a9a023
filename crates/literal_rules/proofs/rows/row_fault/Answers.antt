use Rattle.std.proofs.Common.{sym, ◌∙◌}
use Rattle.literal_rules.proofs.RowLemmas.{none_beyond}
use Rattle.literal_rules.proofs.rows.row_fault.Goals as goal

pub returns-clause-before : goal.returns-clause-before
returns-clause-before c = λ none. none_beyond c.args.limit c.args.places.now (sym c.has_beyond.ensures ∙ c.if-has_beyond.false)
