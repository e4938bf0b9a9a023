use Rattle.analysis_core.proofs.OrderLemmas.{order_total}
use Rattle.analysis_core.proofs.OneLemmas.{one_in_order}
use Rattle.findings.specs.Reported.{IsReported}
use Rattle.findings.proofs.running.one_list.Goals as goal

pub returns : goal.returns
returns g c u marks xs ys a b = one_in_order order_total (IsReported (g.R.Reports.reported c.args.rule.now) u marks) xs ys a b
