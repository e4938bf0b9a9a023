use Rattle.top_calls.proofs.RunDueLaws.{run-single, run-within, run-lawful}
use Rattle.top_calls.proofs.laws.one_due_of_a_run.Goals as goal

pub returns-clause-single : goal.returns-clause-single
returns-clause-single c = run-single (let l = c.one_report_of_a_tree.ensures in record { report = l.report; cache = l.cache; fresh = l.fresh; honest = l.honest; text = l.text; value = l.value })

pub returns-clause-within : goal.returns-clause-within
returns-clause-within c = run-within (let l = c.one_report_of_a_tree.ensures in record { report = l.report; cache = l.cache; fresh = l.fresh; honest = l.honest; text = l.text; value = l.value })

pub returns-clause-lawful : goal.returns-clause-lawful
returns-clause-lawful c = run-lawful (let l = c.one_report_of_a_tree.ensures in record { report = l.report; cache = l.cache; fresh = l.fresh; honest = l.honest; text = l.text; value = l.value })
