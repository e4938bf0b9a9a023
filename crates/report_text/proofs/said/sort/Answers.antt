use Rattle.std.proofs.Common.{rules}
use Rattle.std.specs.Ordering.{is_lt}
use Rattle.std.proofs.lemmas.Fn.{always_returns_same}
use Rattle.std.proofs.lemmas.List.Sorted.{ranks_by}
use Rattle.analysis_core.specs.JsonReplies.{said_order}
use Rattle.analysis_core.proofs.JsonLemmas.{said_total}
use Rattle.report_text.proofs.said.sort.Goals as goal

pub returns-clause-sorted : goal.returns-clause-sorted
returns-clause-sorted c =
    c.sort_unstable_by.ensures.sorted (λ a b. is_lt (said_order a b)) (ranks_by said_total (λ x. x))
    (always_returns_same _ _ _ (λ a r q k. search rules))
