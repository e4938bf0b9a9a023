use Rattle.go_tree.proofs.NodeLemmas.{differ}
use Rattle.std.proofs.Common.{sym, ◌∙◌}
use Rattle.body_rules.proofs.view.clause_ends_in.Goals as goal

pub returns-then-not-has_fall : goal.returns-then-not-has_fall
returns-then-not-has_fall c = λ n is. absurd (differ c.has_fall.result c.if-not-has_fall.true (c.has_fall.ensures.1 (n, is)))

pub returns : goal.returns
returns c = λ n is. c.in_ok-found.ensures
