use Rattle.flow_cases.proofs.CaseLemmas.{graph_at}
use Rattle.flow_cases.proofs.cases.never_flags.Goals as goal

pub never_returning-requires-clause-graphs : goal.never_returning-requires-clause-graphs
never_returning-requires-clause-graphs c k f at = graph_at _ k f at c.in_ok-graph.ensures.graph
