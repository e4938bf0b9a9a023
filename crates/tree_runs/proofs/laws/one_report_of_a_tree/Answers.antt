use Rattle.tree_runs.proofs.CacheLaws.{text-once}
use Rattle.tree_runs.proofs.ReportLaws.{report-once}
use Rattle.tree_runs.proofs.laws.one_report_of_a_tree.Goals as goal

pub returns-clause-report : goal.returns-clause-report
returns-clause-report c = report-once c.one_report_of_a_tree.ensures.report c.one_json.ensures

pub returns-clause-cache : goal.returns-clause-cache
returns-clause-cache c = λ tree task before after other a b r s. c.one_report_of_a_tree.ensures.cache task.command task.only tree before after other r.reply s.reply r.replies s.replies

pub returns-clause-honest : goal.returns-clause-honest
returns-clause-honest c = λ tree task before after a h r. c.one_report_of_a_tree.ensures.honest task.command task.only tree before after r.reply h r.replies

pub returns-clause-text : goal.returns-clause-text
returns-clause-text c = text-once

pub returns-clause-value : goal.returns-clause-value
returns-clause-value c = c.one_cache_of_a_text.ensures
