use Rattle.top_calls.proofs.DueLaws.{one_reason, one_due}
use Rattle.top_calls.proofs.laws.one_due_of_a_script.Goals as goal

pub returns-clause-halt : goal.returns-clause-halt
returns-clause-halt c = one_reason

pub returns-clause-seen : goal.returns-clause-seen
returns-clause-seen c = one_due (let l = c.one_report_of_a_tree.ensures in record { report = l.report; cache = l.cache; fresh = l.fresh; honest = l.honest; text = l.text; value = l.value })
