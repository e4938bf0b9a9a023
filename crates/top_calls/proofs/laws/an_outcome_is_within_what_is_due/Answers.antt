use Rattle.top_calls.proofs.OutLaws.{goes-out, outcome-lawful}
use Rattle.top_calls.proofs.laws.an_outcome_is_within_what_is_due.Goals as goal

pub returns-clause-goes : goal.returns-clause-goes
returns-clause-goes c = goes-out (let l = c.one_report_of_a_tree.ensures in record { report = l.report; cache = l.cache; fresh = l.fresh; honest = l.honest; text = l.text; value = l.value })

pub returns-clause-lawful : goal.returns-clause-lawful
returns-clause-lawful c = outcome-lawful (let l = c.one_report_of_a_tree.ensures in record { report = l.report; cache = l.cache; fresh = l.fresh; honest = l.honest; text = l.text; value = l.value })
