use Rattle.std.proofs.Common.{◌≤◌}
use Rattle.literal_rules.proofs.RowLemmas.{bounded_more}
use Rattle.literal_rules.proofs.rows.by_key.Goals as goal

pub returns-in-Some-clause-small : goal.returns-in-Some-clause-small
returns-in-Some-clause-small c = λ most low old. bounded_more c.index_of.result 9223372036854775807 most low c.index_of.ensures.small
