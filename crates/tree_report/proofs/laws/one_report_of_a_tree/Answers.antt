use Rattle.tree_report.proofs.ReportLemmas.{report-once-of, cache-once-of, read-of, honest-after-of}
use Rattle.tree_report.proofs.laws.one_report_of_a_tree.Goals as goal

pub returns-clause-report : goal.returns-clause-report
returns-clause-report c = report-once-of c.one_report.ensures.facts

pub returns-clause-cache : goal.returns-clause-cache
returns-clause-cache c = cache-once-of

pub returns-clause-read : goal.returns-clause-read
returns-clause-read c = read-of

pub returns-clause-honest : goal.returns-clause-honest
returns-clause-honest c = honest-after-of
