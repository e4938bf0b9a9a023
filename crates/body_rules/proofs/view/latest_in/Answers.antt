use Rattle.go_tree.proofs.NodeLemmas.{differ}
use Rattle.std.proofs.Common.{sym, ◌∙◌}
use Rattle.body_rules.proofs.view.latest_in.Goals as goal

pub returns-then-not-has_goto : goal.returns-then-not-has_goto
returns-then-not-has_goto c = λ n is. absurd (differ c.has_goto.result c.if-not-has_goto.true (c.has_goto.ensures.1 (n, is)))

pub returns : goal.returns
returns c = λ n is. c.in_ok-found.ensures
