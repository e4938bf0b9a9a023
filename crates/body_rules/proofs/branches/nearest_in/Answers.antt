use Rattle.go_tree.proofs.NodeLemmas.{differ}
use Rattle.body_rules.proofs.branches.nearest_in.Goals as goal

pub returns-then-not-has_bare : goal.returns-then-not-has_bare
returns-then-not-has_bare c = λ n is. absurd (differ c.has_bare.result c.if-not-has_bare.true (c.has_bare.ensures.1 (n, is)))

pub returns : goal.returns
returns c = λ n is. c.in_ok-found.ensures
